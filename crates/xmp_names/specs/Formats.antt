-- Formats of `printf`, read byte by byte (ISO C11 7.21.6.1, of which this project has `%%`, and `%d` and `%ld` with a width of 1 to 255 or none),
-- and of `scanf`, which has one conversion alone.
use Rattle.std.specs.Prelude.{◌+◌, ◌*◌, ◌-◌, ◌++◌, ◌∷◌, [], ℕ, List, Bool, true, false, ◌&&◌, ◌||◌, if◌then◌else◌, Option, Some, None, nat_eq, nat_lt, codes}
use Rattle.xmp_scopes.specs.Names.{is_same}
use Rattle.xmp_num.specs.declared.types.Ty.{Ty}
use Rattle.xmp_num.specs.declared.types.Ty.TheVariants.{Int, Long}
use Rattle.xmp_names.specs.declared.formats.Mode.{Mode}
use Rattle.xmp_names.specs.declared.formats.Mode.TheVariants.{Outside, Percent, Width, Letter, Wrong}

abbrev pub is_digit : ℕ → Bool
is_digit b = nat_lt 47 b && nat_lt b 58

-- `d` ends a conversion of int, `l` goes on to one of long
abbrev pub letter : ℕ → Mode
letter b = if nat_eq b 100 then Outside else (if nat_eq b 108 then Letter else Wrong)

abbrev pub wider : ℕ → ℕ → Mode
wider n b = if nat_lt 255 (n * 10 + (b - 48)) then Wrong else Width (n * 10 + (b - 48))

-- how a byte is read
abbrev pub after_byte : Mode → ℕ → Mode
after_byte Outside b = if nat_eq b 37 then Percent else Outside
after_byte Percent b = if nat_eq b 37 then Outside else (if is_digit b && nat_lt 48 b then wider 0 b else letter b)
after_byte (Width n) b = if is_digit b then wider n b else letter b
after_byte Letter b = if nat_eq b 100 then Outside else Wrong
after_byte Wrong b = Wrong

-- the conversion that a byte ends
abbrev pub ended : Mode → ℕ → Option Ty
ended Percent b = if nat_eq b 100 then Some Int else None
ended (Width n) b = if nat_eq b 100 then Some Int else None
ended Letter b = if nat_eq b 100 then Some Long else None
ended Outside b = None
ended Wrong b = None

abbrev pub conversion : Option Ty → List Ty
conversion None = []
conversion (Some ty) = ty ∷ []

-- the conversions of a format, after those so far; None where it is ill-formed
abbrev pub conversions : Mode → List Ty → List ℕ → Option (List Ty)
conversions Outside done [] = Some done
conversions Percent done [] = None
conversions (Width n) done [] = None
conversions Letter done [] = None
conversions Wrong done [] = None
conversions mode done (b ∷ bs) = conversions (after_byte mode b) (done ++ conversion (ended mode b)) bs

-- an argument of no known type fits any conversion
abbrev pub agrees : Ty → Option Ty → Bool
agrees ty None = true
agrees Int (Some Int) = true
agrees Long (Some Long) = true
agrees Int (Some Long) = false
agrees Long (Some Int) = false

abbrev pub all_agree : List Ty → List (Option Ty) → Bool
all_agree [] [] = true
all_agree [] (a ∷ args) = false
all_agree (ty ∷ tys) [] = false
all_agree (ty ∷ tys) (a ∷ args) = agrees ty a && all_agree tys args

abbrev pub fits_types : Option (List Ty) → List (Option Ty) → Bool
fits_types None args = false
fits_types (Some tys) args = all_agree tys args

-- the format is built as it should be, and its conversions are of the arguments' types
abbrev pub fits_format : List ℕ → List (Option Ty) → Bool
fits_format bytes args = fits_types (conversions Outside [] bytes) args

-- The format of a `scanf` into a target of this type; where its type isn't known, either.
abbrev pub is_scan_format : List ℕ → Option Ty → Bool
is_scan_format bytes (Some Int) = is_same bytes (codes "%d")
is_scan_format bytes (Some Long) = is_same bytes (codes "%ld")
is_scan_format bytes None = is_same bytes (codes "%d") || is_same bytes (codes "%ld")
