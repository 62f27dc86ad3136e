use Rattle.xmp_meaning_laws.proofs.Idle as lemmas
use Rattle.xmp_meaning_laws.proofs.laws.handlers_are_idle.Goals as goal

pub returns : goal.returns
returns c start h cx s = lemmas.handlers_are_idle _ h cx s
