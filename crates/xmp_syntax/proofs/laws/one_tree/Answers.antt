use Rattle.xmp_syntax.proofs.OneProgram.{same_tree}
use Rattle.xmp_syntax.proofs.laws.one_tree.Goals as goal

pub returns : goal.returns
returns c = same_tree
