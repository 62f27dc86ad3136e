use Rattle.std.proofs.Common.{◌≡◌, ◌*◌, ◌%◌, ◌<◌, ap, sym, ◌∙◌, arith, pos, ◌+ℤ◌, ◌*ℤ◌, FitsSigned, of_z}
use Rattle.std.specs.Int.{int_wrap, w64}
use Rattle.std.specs.Char.{digit_value}
use Rattle.std.proofs.lemmas.Int.{ints, wrapping_add_onto, wrapping_mul_is, int_wrap-add_left}
use Rattle.xmp_num.proofs.Scanning.{digit_is}
use Rattle.xmp_num.proofs.decimal.with_digit.Goals as goal

pub returns : goal.returns
returns c =
    let value = c.args.value in
    let bits : of_z w64 value * 10 % 18446744073709551616 < 18446744073709551616 = omega arith in
    let added : c.from.result ≡ pos (digit_value c.args.digit) = c.from.ensures ∙ ap pos (sym (digit_is c.args.digit c.requires)) in
    let fits : FitsSigned w64 c.from.result = record { sfits = c.from.type_inv } in
    let ten : FitsSigned w64 (pos 10) = omega (arith, ints) in
    wrapping_add_onto w64 (of_z w64 value * 10 % 18446744073709551616) c.from.result bits fits
    ∙ ap (λ x. int_wrap w64 (x +ℤ c.from.result)) (wrapping_mul_is w64 value (pos 10) c.ranges.value ten)
    ∙ int_wrap-add_left w64 (value *ℤ pos 10) c.from.result
    ∙ ap (λ x. int_wrap w64 (value *ℤ pos 10 +ℤ x)) added
