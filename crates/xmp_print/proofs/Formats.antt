use Rattle.std.proofs.Common.{append_assoc, Option, ◌≡◌, ◌==◌, if◌then◌else◌, ◌+◌, ◌*◌, ◌++◌, [], ◌∷◌, ℕ, ℤ, List, true, false, Some, None, refl, ap, ◌∙◌, sym}
use Rattle.std.specs.Char.{is_ascii_digit, digit_value}
use Rattle.std.proofs.lemmas.Bool.{ne_eqb}
use Rattle.xmp_num.specs.declared.types.Ty.TheVariants.{Int, Long}
use Rattle.xmp_prog.specs.Formats.{Piece, Percent, Number}
use Rattle.xmp_meaning.specs.Formats.{behind_percent, pieces_of, text_of}
use Rattle.xmp_print.specs.Printing.{text_from}

-- a conversion writes the same of either type
same_number : (w : ℕ) (ps : List Piece) (vs : List ℤ) → text_of (Number w Long ∷ ps) vs ≡ text_of (Number w Int ∷ ps) vs
same_number w ps [] = refl
same_number w ps (v ∷ vs) = refl

-- so does the rest of a format inside a conversion of either type
any_type : (w : ℕ) (bs : List ℕ) (vs : List ℤ) → text_of (behind_percent w Long bs) vs ≡ text_of (behind_percent w Int bs) vs
unfolding pieces_of behind_percent
any_type w [] vs = refl
any_type w (b ∷ bs) vs =
    elim (is_ascii_digit b) as (λ t. text_of (if t then behind_percent (w * 10 + digit_value b) Long bs else (if b == 108 then behind_percent w Long bs else (if b == 37 then Percent ∷ pieces_of bs else Number w Long ∷ pieces_of bs))) vs
    ≡ text_of (if t then behind_percent (w * 10 + digit_value b) Int bs else (if b == 108 then behind_percent w Long bs else (if b == 37 then Percent ∷ pieces_of bs else Number w Int ∷ pieces_of bs))) vs) [
      | true ↦ any_type (w * 10 + digit_value b) bs vs
      | false ↦ elim (b == 108) as (λ t. text_of (if t then behind_percent w Long bs else (if b == 37 then Percent ∷ pieces_of bs else Number w Long ∷ pieces_of bs)) vs
          ≡ text_of (if t then behind_percent w Long bs else (if b == 37 then Percent ∷ pieces_of bs else Number w Int ∷ pieces_of bs)) vs) [
            | true ↦ refl
            | false ↦ elim (b == 37) as (λ t. text_of (if t then Percent ∷ pieces_of bs else Number w Long ∷ pieces_of bs) vs ≡ text_of (if t then Percent ∷ pieces_of bs else Number w Int ∷ pieces_of bs) vs) [
              | true ↦ refl
              | false ↦ same_number w (pieces_of bs) vs
            ]
          ]
    ]

-- ---- one byte of a format

pub nothing_left : (vs : List ℤ) → text_from None [] vs ≡ []
unfolding pieces_of behind_percent
nothing_left vs = refl

pub nothing_inside : (w : ℕ) (vs : List ℤ) → text_from (Some w) [] vs ≡ []
unfolding pieces_of behind_percent
nothing_inside w vs = refl

pub plain_byte : (b : ℕ) (bs : List ℕ) (vs : List ℤ) → (b ≡ 37 → ⊥) → text_from None (b ∷ bs) vs ≡ b ∷ text_from None bs vs
unfolding pieces_of behind_percent
plain_byte b bs vs h = rw (ne_eqb b 37 h) refl

pub percent : (bs : List ℕ) (vs : List ℤ) → text_from None (37 ∷ bs) vs ≡ text_from (Some 0) bs vs
unfolding pieces_of behind_percent
percent bs vs = refl

pub digit : (w b : ℕ) (bs : List ℕ) (vs : List ℤ) → is_ascii_digit b ≡ true → text_from (Some w) (b ∷ bs) vs ≡ text_from (Some (w * 10 + digit_value b)) bs vs
unfolding pieces_of behind_percent
digit w b bs vs h = rw h refl

pub letter_l : (w : ℕ) (bs : List ℕ) (vs : List ℤ) → text_from (Some w) (108 ∷ bs) vs ≡ text_from (Some w) bs vs
unfolding pieces_of behind_percent
letter_l w bs vs = any_type w bs vs

pub percent_inside : (w : ℕ) (bs : List ℕ) (vs : List ℤ) → text_from (Some w) (37 ∷ bs) vs ≡ 37 ∷ text_from None bs vs
unfolding pieces_of behind_percent
percent_inside w bs vs = refl

pub letter_d : (w b : ℕ) (bs : List ℕ) (vs : List ℤ) → is_ascii_digit b ≡ false → (b ≡ 108 → ⊥) → (b ≡ 37 → ⊥)
    → text_from (Some w) (b ∷ bs) vs ≡ text_of (Number w Int ∷ pieces_of bs) vs
unfolding pieces_of behind_percent
letter_d w b bs vs h l p = rw (h, ne_eqb b 108 l, ne_eqb b 37 p) refl

pub text_end : (w : Option ℕ) (vs : List ℤ) → text_from w [] vs ≡ []
text_end None vs = nothing_left vs
text_end (Some w) vs = nothing_inside w vs

-- a byte that is appended stands before the rest
pub pushed : (out new : List ℕ) (b : ℕ) (rest : List ℕ) → new ≡ out ++ b ∷ [] → out ++ b ∷ rest ≡ new ++ rest
pushed out new b rest e = sym (append_assoc out (b ∷ []) rest) ∙ ap (λ (t : List ℕ). t ++ rest) (sym e)
