use Rattle.std.proofs.Common.{ap, sym, ◌∙◌}
use Rattle.std.specs.Prelude.{neg_ℤ, if◌then◌else◌}
use Rattle.std.specs.Int.{int_wrap, int_wrapping_neg, w64}
use Rattle.std.proofs.lemmas.Int.{to_z-of_z, wrapping_neg_is}
use Rattle.xmp_num.proofs.decimal.with_sign.Goals as goal

pub returns-then-minus : goal.returns-then-minus
returns-then-minus c =
    to_z-of_z w64 c.wrapping_neg.result (record { sfits = c.wrapping_neg.type_inv })
    ∙ c.wrapping_neg.ensures
    ∙ ap (int_wrapping_neg w64) (to_z-of_z w64 c.args.value c.ranges.value)
    ∙ wrapping_neg_is w64 c.args.value c.ranges.value
    ∙ sym (ap (λ b. int_wrap w64 (if b then neg_ℤ c.args.value else c.args.value)) c.if-minus.true)
