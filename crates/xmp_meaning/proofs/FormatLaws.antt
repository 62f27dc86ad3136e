-- The pieces of a format are those that it is spelled of.
use Rattle.std.proofs.Common.{◌≡◌, ◌+◌, ◌*◌, ◌^◌, ◌<◌, ◌≤◌, ◌++◌, ℕ, Bool, true, false, not, List, [], ◌∷◌, refl, ap, ◌∙◌, append_assoc, if◌then◌else◌, arith}
use Rattle.std.specs.Prelude.{◌==◌, ◌&&◌, nat_le}
use Rattle.std.specs.List.{list_all, flat_map}
use Rattle.std.specs.Char.{is_ascii_digit, digit_value}
use Rattle.std.specs.Fmt.{decimal}
use Rattle.std.specs.Str.Parse.{AllDigits, digits_value_after}
use Rattle.std.proofs.lemmas.Fmt.{decimal_is_IsNumeral}
use Rattle.std.proofs.lemmas.Str.Parse.{digit_from_value}
use Rattle.std.proofs.lemmas.Bool.{false≢true}
use Rattle.std.proofs.lemmas.Bool.Decides.{nat_tests}
use Rattle.xmp_num.specs.declared.types.Ty.{Ty}
use Rattle.xmp_num.specs.declared.types.Ty.TheVariants.{Int, Long}
use Rattle.xmp_prog.specs.Formats.{Byte, Percent, Number, width_spelling, letters, spelling, is_piece}
use Rattle.xmp_meaning.specs.Formats.{pieces_of, behind_percent}
use Rattle.xmp_meaning.specs.Laws.{FormatsRead}

digit_passes : (c : ℕ) → 48 ≤ c → c ≤ 57 → is_ascii_digit c ≡ true
digit_passes c low high = grind (arith, nat_tests)

digits_read : (ds rest : List ℕ) (width : ℕ) (ty : Ty) → AllDigits 10 ds
    → behind_percent width ty (ds ++ rest) ≡ behind_percent (digits_value_after 10 width ds) ty rest
unfolding behind_percent
digits_read [] rest width ty all = refl
digits_read (d ∷ ds) rest width ty all =
    let range : _ = digit_from_value d all.0 in
    ap (λ t. if t then behind_percent (width * 10 + digit_value d) ty (ds ++ rest)
    else (if d == 108 then behind_percent width Long (ds ++ rest)
    else (if d == 37 then Percent ∷ pieces_of (ds ++ rest) else Number width ty ∷ pieces_of (ds ++ rest)))) (digit_passes d range.0 range.1)
    ∙ digits_read ds rest (width * 10 + digit_value d) ty all.1

letters_read : (width : ℕ) (ty : Ty) (rest : List ℕ) → behind_percent width Int (letters ty ++ rest) ≡ Number width ty ∷ pieces_of rest
unfolding behind_percent
letters_read width Int rest = refl
letters_read width Long rest = refl

width_read : (width : ℕ) (ty : Ty) (rest : List ℕ) → width ≤ 255
    → behind_percent 0 Int (width_spelling width ++ (letters ty ++ rest)) ≡ Number width ty ∷ pieces_of rest
width_read width ty rest small = by_zero (width == 0) refl
  where
    by_zero : (b : Bool) → (width == 0) ≡ b → behind_percent 0 Int ((if b then [] else decimal width) ++ (letters ty ++ rest)) ≡ Number width ty ∷ pieces_of rest
    by_zero true e = letters_read 0 ty rest ∙ ap (λ w. Number w ty ∷ pieces_of rest) (let z : 0 ≡ width = grind (arith, nat_tests) in z)
    by_zero false e =
        let numeral : _ = decimal_is_IsNumeral width (let s : width < 2 ^ 64 = omega (arith, small) in s) in
        digits_read (decimal width) (letters ty ++ rest) 0 Int numeral.0.1
        ∙ ap (λ w. behind_percent w Int (letters ty ++ rest)) numeral.1
        ∙ letters_read width ty rest

both_true : (a b : Bool) → (a && b) ≡ true → (a ≡ true) × (b ≡ true)
both_true true b h = (refl, h)
both_true false b h = absurd (false≢true h)

not_true : (t : Bool) → not t ≡ true → t ≡ false
not_true true h = absurd (false≢true h)
not_true false h = refl

small_width : (width : ℕ) → nat_le width 255 ≡ true → width ≤ 255
small_width width h = grind (arith, nat_tests)

pub formats_read : FormatsRead
unfolding pieces_of
formats_read [] fits = refl
formats_read (Byte b ∷ ps) fits =
    let fit : _ = both_true (not (b == 37)) (list_all is_piece ps) fits in
    ap (λ t. if t then behind_percent 0 Int (flat_map spelling ps) else Byte b ∷ pieces_of (flat_map spelling ps)) (not_true (b == 37) fit.0)
    ∙ ap (λ rest. Byte b ∷ rest) (formats_read ps fit.1)
formats_read (Percent ∷ ps) fits = ap (λ rest. Percent ∷ rest) (formats_read ps (both_true true (list_all is_piece ps) fits).1)
formats_read (Number width ty ∷ ps) fits =
    let fit : _ = both_true (nat_le width 255) (list_all is_piece ps) fits in
    ap (λ text. behind_percent 0 Int text) (append_assoc (width_spelling width) (letters ty) (flat_map spelling ps))
    ∙ width_read width ty (flat_map spelling ps) (small_width width fit.0)
    ∙ ap (λ rest. Number width ty ∷ rest) (formats_read ps fit.1)
