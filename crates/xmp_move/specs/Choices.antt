-- The code's choices, as the meaning has them; and ranges in numbers that aren't negative (this project).
use Rattle.std.specs.Prelude.{◌+◌, ◌-◌, ◌*◌, ◌&&◌, ◌||◌, ◌==◌, nat_lt, nat_le, ℕ, ℤ, pos, negsuc, Bool, false, Option, Some, None}
use Rattle.xmp_meaning.specs.Sections.{Chosen, One, Many}
use Rattle.xmp_move.specs.declared.numbers.Chosen as code
use Rattle.xmp_move.specs.declared.numbers.Chosen.TheVariants as variant

-- the part of the meaning that a part of the code stands for
abbrev pub chosen_of : code.Chosen → Chosen
chosen_of (variant.One v) = One v
chosen_of (variant.Many base length step) = Many base length step

-- a number that isn't negative
abbrev pub counted : ℤ → Option ℕ
counted (pos n) = Some n
counted (negsuc n) = None

-- a section's range, in numbers that aren't negative
abbrev pub is_last_inside : (extent : ℕ) → (base : Option ℕ) → (length step : ℕ) → Bool
is_last_inside extent None length step = false
is_last_inside extent (Some base) length step = nat_lt (base + (length - 1) * step) extent

abbrev pub range_of : (extent : ℕ) → (base length step : Option ℕ) → Bool
range_of extent base (Some length) (Some step) = nat_le 1 step && ((length == 0) || is_last_inside extent base length step)
range_of extent base (Some length) None = false
range_of extent base None step = false
