use Rattle.xmp_meaning_laws.proofs.CountedLoops as lemmas
use Rattle.xmp_meaning_laws.proofs.laws.loops_are_counted.Goals as goal

pub returns : goal.returns
returns c start h cx head body = lemmas.loops_are_counted _ h cx head body
