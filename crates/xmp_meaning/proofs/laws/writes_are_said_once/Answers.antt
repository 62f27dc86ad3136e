use Rattle.xmp_meaning.proofs.WrittenOnce as lemmas
use Rattle.xmp_meaning.proofs.laws.writes_are_said_once.Goals as goal

pub returns : goal.returns
returns c = lemmas.writes_are_one
