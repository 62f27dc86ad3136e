-- What `printf` writes (ISO C11 7.21.6.1).
use Rattle.std.specs.Prelude.{ℕ, ◌+◌, ◌*◌, ◌==◌, if◌then◌else◌, List, [], ◌∷◌, ◌++◌, ℤ}
use Rattle.std.specs.Char.{is_ascii_digit, digit_value}
use Rattle.std.specs.Fmt.{signed_decimal}
use Rattle.xmp_num.specs.declared.types.Ty.{Ty}
use Rattle.xmp_num.specs.declared.types.Ty.TheVariants.{Int, Long}
use Rattle.xmp_num.specs.Decimal.{padded}
use Rattle.xmp_prog.specs.Formats.{Piece, Byte, Percent, Number}

-- what is written for the pieces of a format, each conversion with the next value
abbrev pub text_of : List Piece → List ℤ → List ℕ
text_of [] vs = []
text_of (Byte b ∷ ps) vs = b ∷ text_of ps vs
text_of (Percent ∷ ps) vs = 37 ∷ text_of ps vs
text_of (Number width ty ∷ ps) [] = text_of ps []
text_of (Number width ty ∷ ps) (v ∷ vs) = padded width (signed_decimal v) ++ text_of ps vs

-- the pieces that a format is built of; and those of its rest behind a `%`, whose conversion has this width and type so far (`%` is 37, `l` is 108)
unfoldable mutual
  pub pieces_of : List ℕ → List Piece
  pieces_of [] = []
  pieces_of (b ∷ bs) = if b == 37 then behind_percent 0 Int bs else Byte b ∷ pieces_of bs

  pub behind_percent : ℕ → Ty → List ℕ → List Piece
  behind_percent width ty [] = []
  behind_percent width ty (b ∷ bs) =
      if is_ascii_digit b then behind_percent (width * 10 + digit_value b) ty bs
      else (if b == 108 then behind_percent width Long bs
      else (if b == 37 then Percent ∷ pieces_of bs else Number width ty ∷ pieces_of bs))

-- what a format writes for these values
abbrev pub printed : List ℕ → List ℤ → List ℕ
printed format vs = text_of (pieces_of format) vs
