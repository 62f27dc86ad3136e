use Rattle.std.proofs.Common.{◌∙◌, ap}
use Rattle.std.proofs.lemmas.Result.{IfOk-weaker}
use Rattle.xmp_top.specs.Answer.{accepted, breaks, prints}
use Rattle.xmp_top.proofs.answer.answer_check.Goals as goal

pub returns-in_ok-out-in-Ok : goal.returns-in_ok-out-in-Ok
returns-in_ok-out-in-Ok c = accepted c.in-Ok.program (rw c.nodes_of.ensures at c.in-Ok.ensures.accepted) (c.printed.ensures ∙ ap prints c.in_ok-out-in-Ok.ensures)

pub returns-in-Err-Refused : goal.returns-in-Err-Refused
returns-in-Err-Refused c =
    IfOk-weaker c.refused.result _ _ (λ due h. breaks c.in-Err-Refused.refusal (rw c.nodes_of.ensures at (rw c.in-Err-Refused.field-0-is at c.in-Err-Refused.ensures.refused)) h) c.refused.ensures
