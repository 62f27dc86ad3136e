use Rattle.std.proofs.Common.{ap, ◌∙◌, Ok}
use Rattle.std.specs.Int.{cast_signed, cast_unsigned, w64, int_wrapping_div}
use Rattle.std.proofs.lemmas.Int.{to_z-of_z}
use Rattle.xmp_num.specs.Arithmetic.{wrap}
use Rattle.xmp_num.proofs.Wraps.{divided_is}
use Rattle.xmp_num.proofs.arithmetic.divide.Goals as goal

pub returns : goal.returns
returns c =
    ap Ok
    (to_z-of_z w64 c.convert.result (record { sfits = c.convert.type_inv })
    ∙ c.convert.ensures
    ∙ ap (wrap c.args.ty)
    (to_z-of_z w64 c.wrapping_div.result (record { sfits = c.wrapping_div.type_inv })
    ∙ c.wrapping_div.ensures
    ∙ ap (λ x. int_wrapping_div w64 x (cast_signed w64 (cast_unsigned w64 c.args.b))) (to_z-of_z w64 c.args.a c.ranges.a)
    ∙ ap (int_wrapping_div w64 c.args.a) (to_z-of_z w64 c.args.b c.ranges.b)))
    ∙ divided_is c.args.ty c.args.a c.args.b c.ranges.a (λ e. c.if-b-eq0.false (ap (cast_unsigned w64) e))
