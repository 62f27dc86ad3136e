use Rattle.xmp_meaning.proofs.Counting as lemmas
use Rattle.xmp_meaning.proofs.laws.turns_are_counted.Goals as goal

pub returns : goal.returns
returns c = lemmas.turns_are_counted
