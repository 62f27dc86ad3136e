-- Numbers as decimal text: how they are written (`%*ld` of ISO C11 7.21.6.1) and read (`%ld` of 7.21.6.2; this project reduces digits of any
-- number to the type, and keeps white space and sign consumed where no digit follows).
use Rattle.std.specs.Prelude.{◌≡◌, ⊤, ℕ, ◌+◌, ◌-◌, ◌≤◌, ◌==◌, ◌||◌, ℤ, pos, neg_ℤ, Bool, false, if◌then◌else◌, Option, Some, None, List, [], ◌∷◌, ◌++◌, length, drop, replicate}
use Rattle.std.specs.List.{take_while, AllPass}
use Rattle.std.specs.Int.{is_in_range}
use Rattle.std.specs.Char.{is_ascii_digit}
use Rattle.std.specs.Str.Parse.{digits_value, starts_with_minus}
use Rattle.xmp_num.specs.Arithmetic.{wrap}
use Rattle.xmp_num.specs.declared.types.Ty.{Ty}

-- A text with spaces on its left up to a width.
abbrev pub padded : ℕ → List ℕ → List ℕ
padded width text = replicate (width - length text) 32 ++ text

-- The language's white space: tab, line feed, vertical tab, form feed, carriage return, space.
abbrev pub is_white : ℕ → Bool
is_white b = is_in_range 9 13 b || (b == 32)

-- `+` or `-`.
abbrev pub is_sign : ℕ → Bool
is_sign b = (b == 43) || (b == 45)

-- The number that a sign, or none, and digits write.
abbrev pub with_sign : List ℕ → ℕ → ℤ
with_sign sign n = if starts_with_minus sign then neg_ℤ (pos n) else pos n

-- The number that a sign, or none, and digits write, reduced to the type; there is none without a digit.
abbrev pub number_of : Ty → List ℕ → List ℕ → Option ℤ
number_of ty sign [] = None
number_of ty sign (d ∷ ds) = Some (wrap ty (with_sign sign (digits_value 10 (d ∷ ds))))

-- The text doesn't begin with a byte that passes.
abbrev pub BeginsWithout : (ℕ → Bool) → List ℕ → Type 0
BeginsWithout test [] = ⊤
BeginsWithout test (b ∷ bs) = test b ≡ false

-- From this place on the text is white space, a sign or none, digits and a rest, each as long as can be; reading a number of the type
-- there gives this value and goes on behind the digits.
pub record Scans (ty : Ty) (input : List ℕ) (at : ℕ) (value : Option ℤ) (next : ℕ) : Type 0 where
  pub white : List ℕ
  pub sign : List ℕ
  pub digits : List ℕ
  pub rest : List ℕ
  pub whole : drop at input ≡ white ++ (sign ++ (digits ++ rest))
  pub all_white : AllPass is_white white
  pub no_more_white : BeginsWithout is_white (sign ++ (digits ++ rest))
  pub signs : AllPass is_sign sign
  pub one_at_most : length sign ≤ 1
  pub no_sign_left : sign ≡ [] → BeginsWithout is_sign (digits ++ rest)
  pub all_digits : AllPass is_ascii_digit digits
  pub no_more_digits : BeginsWithout is_ascii_digit rest
  pub value_is : value ≡ number_of ty sign digits
  pub next_is : next ≡ at + (length white + (length sign + length digits))

-- The sign that a text begins with, or nothing.
abbrev pub sign_of : List ℕ → List ℕ
sign_of [] = []
sign_of (b ∷ bs) = if is_sign b then b ∷ [] else []

-- The same as a function: the value and the place behind it.
unfoldable pub scan_of : Ty → List ℕ → ℕ → Option ℤ × ℕ
scan_of ty input at =
    let text = drop at input in
    let white = take_while is_white text in
    let signed = drop (length white) text in
    let sign = sign_of signed in
    let digits = take_while is_ascii_digit (drop (length sign) signed) in
    (number_of ty sign digits, at + (length white + (length sign + length digits)))
