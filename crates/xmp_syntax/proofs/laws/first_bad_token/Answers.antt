use Rattle.xmp_syntax.proofs.DeepTokens.{stuck_front, front_stuck}
use Rattle.xmp_syntax.proofs.laws.first_bad_token.Goals as goal

pub returns-clause-front : goal.returns-clause-front
returns-clause-front c = stuck_front

pub returns-clause-stuck : goal.returns-clause-stuck
returns-clause-stuck c = front_stuck
