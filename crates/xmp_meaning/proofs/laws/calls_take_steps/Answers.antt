use Rattle.xmp_meaning.proofs.Stays as lemmas
use Rattle.xmp_meaning.proofs.laws.calls_take_steps.Goals as goal

pub returns : goal.returns
returns c start cx = lemmas.call_takes_steps cx
