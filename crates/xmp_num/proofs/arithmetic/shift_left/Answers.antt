use Rattle.std.proofs.Common.{◌≡◌, ap, sym, ◌∙◌, pos, Ok, ◌%◌}
use Rattle.std.specs.Int.{cast_signed, cast_unsigned, w64, int_shl}
use Rattle.std.specs.Int.RustNames.{unsigned_abs, int_le, int_lt}
use Rattle.std.proofs.lemmas.Int.{to_z-of_z}
use Rattle.xmp_num.specs.Arithmetic.{wrap, bits_of}
use Rattle.xmp_num.proofs.Wraps.{shl_is}
use Rattle.xmp_num.proofs.arithmetic.shift_left.Goals as goal

pub returns : goal.returns
returns c =
    let ea : _ ≡ _ = to_z-of_z w64 c.args.a c.ranges.a in
    let eb : _ ≡ _ = to_z-of_z w64 c.args.b c.ranges.b in
    let ew : _ ≡ _ = to_z-of_z w64 c.width.result (record { sfits = c.width.type_inv }) ∙ c.width.ensures in
    ap Ok
    (to_z-of_z w64 c.convert.result (record { sfits = c.convert.type_inv })
    ∙ c.convert.ensures
    ∙ ap (wrap c.args.ty)
    (to_z-of_z w64 c.wrapping_shl.result (record { sfits = c.wrapping_shl.type_inv })
    ∙ c.wrapping_shl.ensures
    ∙ ap (λ x. int_shl w64 x (unsigned_abs (cast_signed w64 (cast_unsigned w64 c.args.b)) % 64)) ea
    ∙ ap (λ x. int_shl w64 c.args.a (unsigned_abs x % 64)) eb))
    ∙ shl_is c.args.ty c.args.a c.args.b c.ranges.a
    (sym (ap (λ x. int_le x (cast_signed w64 (cast_unsigned w64 c.args.b))) ew ∙ ap (int_le (pos (bits_of c.args.ty))) eb) ∙ c.if-b-width.false)
    (sym (ap (λ x. int_lt x (pos 0)) eb) ∙ c.if-b-lt0.false)
