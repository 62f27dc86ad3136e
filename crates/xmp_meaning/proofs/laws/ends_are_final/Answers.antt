use Rattle.xmp_meaning.proofs.Sequences as lemmas
use Rattle.xmp_meaning.proofs.laws.ends_are_final.Goals as goal

pub returns : goal.returns
returns c start = lemmas.ends_are_final _ _ _
