use Rattle.xmp_meaning.proofs.MoreSteps as lemmas
use Rattle.xmp_meaning.proofs.laws.more_steps.Goals as goal

pub returns : goal.returns
returns c p input steps more = lemmas.more_steps more p input steps
