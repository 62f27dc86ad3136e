-- The formats of `printf` (ISO C11 7.21.6.1, of which this project has `%%`, and `%d` and `%ld` with a width or none).
use Rattle.std.specs.Prelude.{◌≡◌, ℕ, Bool, true, not, ◌==◌, nat_le, if◌then◌else◌, List, [], ◌∷◌, ◌++◌, IsTrue}
use Rattle.std.specs.List.{list_all, flat_map}
use Rattle.std.specs.Fmt.{decimal}
use Rattle.xmp_num.specs.declared.types.Ty.{Ty}
use Rattle.xmp_num.specs.declared.types.Ty.TheVariants.{Int, Long}

-- A piece of a format: a byte that is written as it stands, `%%`, or a conversion with its width, 0 where it has none, and its type.
pub data Piece : Type 0 where
  Byte : ℕ → Piece
  Percent : Piece
  Number : (width : ℕ) → Ty → Piece

-- How a width and a conversion are spelled: `d` is 100, `l` is 108.
abbrev pub width_spelling : ℕ → List ℕ
width_spelling width = if width == 0 then [] else decimal width

abbrev pub letters : Ty → List ℕ
letters Int = 100 ∷ []
letters Long = 108 ∷ 100 ∷ []

-- How a piece is spelled: `%` is 37.
abbrev pub spelling : Piece → List ℕ
spelling (Byte b) = b ∷ []
spelling Percent = 37 ∷ 37 ∷ []
spelling (Number width ty) = 37 ∷ (width_spelling width ++ letters ty)

-- Whether a piece may stand: a byte isn't `%`, a width is at most 255.
abbrev pub is_piece : Piece → Bool
is_piece (Byte b) = not (b == 37)
is_piece Percent = true
is_piece (Number width ty) = nat_le width 255

-- The types that the conversions of a format ask for, in order.
abbrev pub type_asked : Piece → List Ty
type_asked (Byte b) = []
type_asked Percent = []
type_asked (Number width ty) = ty ∷ []

-- A format for arguments of these types: it is built of pieces whose conversions ask for them, one for each.
pub record IsFormat (format : List ℕ) (types : List Ty) : Type 0 where
  pub pieces : List Piece
  pub pieces_fit : IsTrue (list_all is_piece pieces)
  pub spelled : flat_map spelling pieces ≡ format
  pub types_asked : flat_map type_asked pieces ≡ types
