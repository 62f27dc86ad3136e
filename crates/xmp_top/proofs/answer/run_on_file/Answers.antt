use Rattle.std.proofs.Common.{rules}
use Rattle.std.proofs.lemmas.Result.{IfOk-weaker}
use Rattle.xmp_top.specs.Answer.{input_too_large, runs}
use Rattle.xmp_top.proofs.answer.run_on_file.Goals as goal

pub returns-then-input-gt-INPUT_LIMIT : goal.returns-then-input-gt-INPUT_LIMIT
returns-then-input-gt-INPUT_LIMIT g c =
    IfOk-weaker c.line_on_err.result _ _ (λ due h. input_too_large c.as_slice-input.result.now (rw c.as_slice-input.ensures c.in-Ok.ensures.bytes) (search rules) h) c.line_on_err.ensures

pub returns-else-input-gt-INPUT_LIMIT : goal.returns-else-input-gt-INPUT_LIMIT
returns-else-input-gt-INPUT_LIMIT g c =
    IfOk-weaker c.run_serial.result _ _ (λ due h. runs c.as_slice-input.result.now (rw c.as_slice-input.ensures c.in-Ok.ensures.bytes) (search rules) h) c.run_serial.ensures
