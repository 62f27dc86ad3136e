-- The range of a section in numbers that are counted.
use Rattle.std.proofs.Common.{◌≡◌, ◌+◌, ◌-◌, ◌*◌, ◌&&◌, ◌||◌, ℕ, ℤ, zero, suc, pos, negsuc, Bool, true, false, refl, ap, ◌∙◌, sym, arith, nat_lt, nat_le}
use Rattle.std.proofs.Math.Dec.{eqb-suc-zero, leb-zero}
use Rattle.xmp_meaning.specs.Sections.{in_range}
use Rattle.xmp_move.specs.Choices.{counted, range_of}

and_false : (b : Bool) → (b && false) ≡ false
and_false true = refl
and_false false = refl

and_true : (b : Bool) → (b && true) ≡ b
and_true true = refl
and_true false = refl

one_less : (m : ℕ) → suc m - 1 ≡ m
one_less m = omega arith

none_below : (b : ℕ) → nat_le 0 b ≡ true
none_below b = leb-zero b

-- the range in whole numbers is that of the numbers that are counted
pub range_is : (extent : ℕ) (base length step : ℤ) → range_of extent (counted base) (counted length) (counted step) ≡ in_range extent base length step
range_is extent base (pos zero) (pos s) = and_true (nat_le 1 s)
range_is extent (pos b) (pos (suc m)) (pos s) =
    ap (λ (t : Bool). nat_le 1 s && (t || nat_lt (b + (suc m - 1) * s) extent)) (eqb-suc-zero m)
    ∙ ap (λ (x : ℕ). nat_le 1 s && nat_lt (b + x * s) extent) (one_less m)
    ∙ ap (λ (t : Bool). nat_le 1 s && (t && nat_lt (b + m * s) extent)) (sym (none_below b))
range_is extent (negsuc b) (pos (suc m)) (pos s) = ap (λ (t : Bool). nat_le 1 s && (t || false)) (eqb-suc-zero m)
range_is extent base (pos zero) (negsuc s) = refl
range_is extent (pos b) (pos (suc m)) (negsuc s) = refl
range_is extent (negsuc b) (pos (suc m)) (negsuc s) = refl
range_is extent base (negsuc n) (pos s) = refl
range_is extent base (negsuc n) (negsuc s) = refl
