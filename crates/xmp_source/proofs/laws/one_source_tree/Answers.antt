use Rattle.xmp_source.proofs.Sources.{one_tree}
use Rattle.xmp_source.proofs.laws.one_source_tree.Goals as goal

pub returns : goal.returns
returns c = one_tree c.one_cut.ensures c.one_expansion.ensures c.same_tokens.ensures
