use Rattle.xmp_source.proofs.Sources as lemmas
use Rattle.xmp_source.proofs.laws.never_tree_and_refused.Goals as goal

pub returns : goal.returns
returns c =
    lemmas.tree_or_refused c.one_cut.ensures c.one_expansion.ensures c.cut_or_refused.ensures c.expanded_or_refused.ensures
    c.never_parsed_and_refused.ensures
