use Rattle.std.proofs.Common.{◌∙◌, to_z}
use Rattle.std.specs.Int.{w64}
use Rattle.std.proofs.lemmas.Int.{to_z-of_z}
use Rattle.xmp_num.proofs.Scanning.{more_digits}
use Rattle.xmp_num.proofs.decimal.magnitude.Goals as goal

pub loop-digit-preserved : goal.loop-digit-preserved
loop-digit-preserved c =
    to_z-of_z w64 c.with_digit-value.result (record { sfits = c.with_digit-value.type_inv })
    ∙ more_digits c.args.digits.now c.loop-digit.digit-index (to_z w64 c.loop-digit.value-bits) c.with_digit-value.result c.loop-digit-test.true c.loop-digit.invariant c.with_digit-value.ensures
