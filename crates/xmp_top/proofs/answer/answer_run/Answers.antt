use Rattle.xmp_top.specs.Answer.{printed}
use Rattle.xmp_top.proofs.answer.answer_run.Goals as goal

pub returns-in-Some : goal.returns-in-Some
returns-in-Some c = printed c.in-Some.out (rw c.in-Some.is at c.in_ok-out.ensures) c.printed.ensures
