-- What is written for the rest of a format.
use Rattle.std.specs.Prelude.{ℕ, ℤ, List, Option, Some, None}
use Rattle.xmp_num.specs.declared.types.Ty.TheVariants.{Int}
use Rattle.xmp_meaning.specs.Formats.{behind_percent, pieces_of, text_of}

-- outside a conversion, or inside one whose width so far is this
abbrev pub text_from : Option ℕ → List ℕ → List ℤ → List ℕ
text_from None bs vs = text_of (pieces_of bs) vs
text_from (Some width) bs vs = text_of (behind_percent width Int bs) vs
