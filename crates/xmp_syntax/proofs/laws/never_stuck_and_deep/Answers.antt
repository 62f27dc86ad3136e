use Rattle.xmp_syntax.proofs.DeepTokens.{stuck_or_deep}
use Rattle.xmp_syntax.proofs.laws.never_stuck_and_deep.Goals as goal

pub returns : goal.returns
returns c = stuck_or_deep
