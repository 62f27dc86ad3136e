use Rattle.std.proofs.lemmas.Result.{IfOk-weaker}
use Rattle.xmp_top.specs.Answer.{no_form, of_form}
use Rattle.xmp_top.specs.Forms.{form_of}
use Rattle.xmp_top.proofs.answer.prepare.Goals as goal

pub returns-in-None : goal.returns-in-None
returns-in-None g c = IfOk-weaker c.line_on_err.result _ _ (λ due h. no_form (rw c.as_slice.ensures.value at c.in-None.ensures.none) h) c.line_on_err.ensures

pub returns-in-Some : goal.returns-in-Some
returns-in-Some g c = IfOk-weaker c.answer_form.result _ _ (λ due h. of_form (form_of c.in-Some.line) (rw c.as_slice.ensures.value at c.in-Some.ensures.form) h) c.answer_form.ensures
