use Rattle.xmp_parts_laws.proofs.SomeParts as lemmas
use Rattle.xmp_parts_laws.proofs.laws.every_tree_is_judged.Goals as goal

pub returns : goal.returns
returns c = lemmas.every_tree
