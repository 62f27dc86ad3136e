-- How many values a format asks for.
use Rattle.std.proofs.Common.{◌≡◌, ◌+◌, ℕ, suc, Bool, true, false, List, [], ◌∷◌, length, refl, ap, ◌∙◌, arith}
use Rattle.std.specs.Prelude.{◌==◌, ◌*◌, if◌then◌else◌}
use Rattle.std.specs.List.{flat_map}
use Rattle.std.specs.Char.{is_ascii_digit, digit_value}
use Rattle.xmp_num.specs.declared.types.Ty.{Ty}
use Rattle.xmp_num.specs.declared.types.Ty.TheVariants.{Int, Long}
use Rattle.xmp_prog.specs.Formats.{Piece, Byte, Percent, Number, type_asked}
use Rattle.xmp_meaning.specs.Formats.{pieces_of, behind_percent}
use Rattle.xmp_instr.specs.FormatTests.{asked_from}
use Rattle.xmp_instr.specs.Tables.{asked}

abbrev counted : List Piece → ℕ
counted ps = length (flat_map type_asked ps)

-- one byte outside, by whether it is a percent sign
outside : (b : ℕ) (bs : List ℕ) (t : Bool)
    → counted (pieces_of bs) ≡ asked_from false bs → counted (behind_percent 0 Int bs) ≡ asked_from true bs
    → counted (if t then behind_percent 0 Int bs else Byte b ∷ pieces_of bs) ≡ 0 + asked_from t bs
outside b bs true h k = k ∙ omega arith
outside b bs false h k = h ∙ omega arith

-- one byte inside, by whether it is a digit, an `l`, or a percent sign
inside : (width : ℕ) (ty : Ty) (bs : List ℕ) (wide : ℕ) (d l p : Bool)
    → counted (pieces_of bs) ≡ asked_from false bs → ((w : ℕ) (t : Ty) → counted (behind_percent w t bs) ≡ asked_from true bs)
    → counted (if d then behind_percent wide ty bs else (if l then behind_percent width Long bs else (if p then Percent ∷ pieces_of bs else Number width ty ∷ pieces_of bs)))
    ≡ (if d then 0 else (if l then 0 else (if p then 0 else 1))) + asked_from (if d then true else l) bs
inside width ty bs wide true l p h k = k wide ty ∙ omega arith
inside width ty bs wide false true p h k = k width Long ∙ omega arith
inside width ty bs wide false false true h k = h ∙ omega arith
inside width ty bs wide false false false h k = ap (λ n. suc n) h ∙ omega arith

both : (bs : List ℕ) → (counted (pieces_of bs) ≡ asked_from false bs) × ((w : ℕ) (t : Ty) → counted (behind_percent w t bs) ≡ asked_from true bs)
unfolding pieces_of behind_percent
both [] = (refl, λ w t. refl)
both (b ∷ bs) =
    let r = both bs in (
      outside b bs (b == 37) r.0 (r.1 0 Int),
      λ w t. inside w t bs (w * 10 + digit_value b) (is_ascii_digit b) (b == 108) (b == 37) r.0 r.1,
    )

pub asked_is : (bs : List ℕ) → asked bs ≡ asked_from false bs
asked_is bs = (both bs).0
