use Rattle.std.proofs.lemmas.Result.{IfOk-weaker}
use Rattle.xmp_top.specs.Answer.{accepted, breaks}
use Rattle.xmp_top.proofs.answer.answer_serial.Goals as goal

pub returns-in-Ok : goal.returns-in-Ok
returns-in-Ok g c = IfOk-weaker c.answer_program-due.result _ _ (λ due h. accepted c.in-Ok.program (rw c.nodes_of.ensures at c.in-Ok.ensures.accepted) h) c.answer_program-due.ensures

pub returns-in-Err-Refused : goal.returns-in-Err-Refused
returns-in-Err-Refused g c =
    IfOk-weaker c.refused.result _ _ (λ due h. breaks c.in-Err-Refused.refusal (rw c.nodes_of.ensures at (rw c.in-Err-Refused.field-0-is at c.in-Err-Refused.ensures.refused)) h) c.refused.ensures
