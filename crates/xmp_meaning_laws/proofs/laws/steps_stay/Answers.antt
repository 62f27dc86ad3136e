use Rattle.xmp_meaning_laws.proofs.Stays as lemmas
use Rattle.xmp_meaning_laws.proofs.laws.steps_stay.Goals as goal

pub returns : goal.returns
returns c start p node input n s = lemmas.steps_stay _ p node input n s
