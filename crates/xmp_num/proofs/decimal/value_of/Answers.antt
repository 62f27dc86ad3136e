use Rattle.std.proofs.Common.{◌≡◌, ◌∙◌, of_z, to_z}
use Rattle.std.specs.Int.{w64}
use Rattle.std.proofs.lemmas.Int.{to_z-of_z}
use Rattle.xmp_num.proofs.Scanning.{value_is}
use Rattle.xmp_num.proofs.decimal.value_of.Goals as goal

pub returns : goal.returns
returns c =
    let magnitude : to_z w64 (of_z w64 c.magnitude.result) ≡ c.magnitude.result = to_z-of_z w64 c.magnitude.result (record { sfits = c.magnitude.type_inv }) in
    let signed : to_z w64 (of_z w64 c.with_sign-value.result) ≡ c.with_sign-value.result = to_z-of_z w64 c.with_sign-value.result (record { sfits = c.with_sign-value.type_inv }) in
    let value : to_z w64 (of_z w64 c.convert.result) ≡ c.convert.result = to_z-of_z w64 c.convert.result (record { sfits = c.convert.type_inv }) in
    value_is c.args.ty c.args.sign.now c.args.digits.now c.is_minus.result
    (to_z w64 (of_z w64 c.magnitude.result)) (to_z w64 (of_z w64 c.with_sign-value.result)) (to_z w64 (of_z w64 c.convert.result))
    c.if-is_empty.ensures
    c.is_minus.ensures
    (magnitude ∙ c.magnitude.ensures)
    (signed ∙ c.with_sign-value.ensures)
    (value ∙ c.convert.ensures)
