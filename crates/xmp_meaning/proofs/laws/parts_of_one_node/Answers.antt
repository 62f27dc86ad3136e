use Rattle.xmp_meaning.proofs.Wholes as lemmas
use Rattle.xmp_meaning.proofs.laws.parts_of_one_node.Goals as goal

pub returns : goal.returns
returns c start p h cx directive body = lemmas.part_is_whole p h cx directive body
