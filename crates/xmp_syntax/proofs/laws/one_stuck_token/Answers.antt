use Rattle.xmp_syntax.proofs.Shorter.{one_place}
use Rattle.xmp_syntax.proofs.laws.one_stuck_token.Goals as goal

pub returns : goal.returns
returns c = one_place
