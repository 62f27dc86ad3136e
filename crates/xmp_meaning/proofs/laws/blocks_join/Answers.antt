use Rattle.xmp_meaning.proofs.Sequences as lemmas
use Rattle.xmp_meaning.proofs.laws.blocks_join.Goals as goal

pub returns : goal.returns
returns c start = lemmas.blocks_join _
