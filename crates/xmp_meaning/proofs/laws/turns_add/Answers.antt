use Rattle.xmp_meaning.proofs.Sequences as lemmas
use Rattle.xmp_meaning.proofs.laws.turns_add.Goals as goal

pub returns : goal.returns
returns c start = lemmas.turns_add _
