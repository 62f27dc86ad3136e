-- Formats of `printf` read byte by byte (ISO C11 7.21.6.1, of which this project has `%%`, and `%d` and `%ld` with a
-- width of 1 to 255 or none).
use Rattle.std.specs.Prelude.{ℕ, ◌+◌, ◌*◌, ◌-◌, ◌==◌, ◌&&◌, nat_lt, if◌then◌else◌, Bool, true, false, List, [], ◌∷◌}
use Rattle.std.specs.Char.{is_ascii_digit}
use Rattle.xmp_instr.specs.declared.formats.Mode.{Mode}
use Rattle.xmp_instr.specs.declared.formats.Mode.TheVariants.{Outside, Percent, Width, Letter, Wrong}

-- `0` is 48 and `9` is 57
abbrev pub is_digit : (byte : ℕ) → Bool
is_digit b = nat_lt 47 b && nat_lt b 58

-- a width so far, which is at most 255
abbrev pub wider : (width byte : ℕ) → Mode
wider n b = if nat_lt 255 (n * 10 + (b - 48)) then Wrong else Width (n * 10 + (b - 48))

-- `d` (100) ends a conversion, and `l` (108) goes on to `d`
abbrev pub letter : (byte : ℕ) → Mode
letter b = if b == 100 then Outside else (if b == 108 then Letter else Wrong)

-- how a byte is read; `%` is 37, and a width doesn't begin with `0`
abbrev pub after_byte : Mode → (byte : ℕ) → Mode
after_byte Outside b = if b == 37 then Percent else Outside
after_byte Percent b = if b == 37 then Outside else (if is_digit b && nat_lt 48 b then wider 0 b else letter b)
after_byte (Width n) b = if is_digit b then wider n b else letter b
after_byte Letter b = if b == 100 then Outside else Wrong
after_byte Wrong b = Wrong

abbrev pub is_outside : Mode → Bool
is_outside Outside = true
is_outside Percent = false
is_outside (Width n) = false
is_outside Letter = false
is_outside Wrong = false

-- whether a format ends outside a conversion, read on from here
abbrev pub read_on : Mode → List ℕ → Bool
read_on mode [] = is_outside mode
read_on mode (b ∷ bs) = read_on (after_byte mode b) bs

-- how many values a format asks for from here on, outside a conversion or inside one
abbrev pub goes_inside : (inside : Bool) → (byte : ℕ) → Bool
goes_inside false b = b == 37
goes_inside true b = if is_ascii_digit b then true else (b == 108)

abbrev pub ends_one : (inside : Bool) → (byte : ℕ) → ℕ
ends_one false b = 0
ends_one true b = if is_ascii_digit b then 0 else (if b == 108 then 0 else (if b == 37 then 0 else 1))

abbrev pub asked_from : (inside : Bool) → List ℕ → ℕ
asked_from inside [] = 0
asked_from inside (b ∷ bs) = ends_one inside b + asked_from (goes_inside inside b) bs
