-- Bounds of loops, and their turns.
use Rattle.std.proofs.Common.{◌≡◌, ◌+◌, ◌-◌, ◌*◌, ◌/◌, ◌^◌, ◌≤◌, ℕ, Bool, true, false, if◌then◌else◌, arith, ap, ◌∙◌, ℤ, pos, negsuc, ◌+ℤ◌, ◌-ℤ◌}
use Rattle.std.specs.Prelude.{◌≤ℤ◌}
use Rattle.std.specs.Int.{w32, int_wrap}
use Rattle.std.specs.Int.RustNames.{FitsSigned}
use Rattle.std.proofs.Math.Nat.{div-mul-le_self, div-zero}
use Rattle.std.proofs.lemmas.Int.{ints, to_z-of_z, SFits-int_wrap}
use Rattle.xmp_meaning.specs.Expressions.{natural}
use Rattle.xmp_meaning.specs.Loops.{turn_count}

pub int_fits : (z : ℤ) → FitsSigned w32 (int_wrap w32 z)
int_fits z = SFits-int_wrap w32 z

pub ruleset converted = (int_fits, to_z-of_z)

-- the last turn is inside the bound
pub turns_inside : (first to : ℤ) (inclusive : Bool) (step : ℕ) → FitsSigned w32 first → FitsSigned w32 to → 1 ≤ step
    → (first +ℤ pos (turn_count first to inclusive step * step)) ≤ℤ pos (2 ^ 31 - 1 + step)
turns_inside first to inclusive step f t rises =
    at_gap ((to -ℤ first) +ℤ pos (if inclusive then 1 else 0)) (bound inclusive)
  where
    bound : (b : Bool) → ((to -ℤ first) +ℤ pos (if b then 1 else 0)) ≤ℤ (pos (2 ^ 31) -ℤ first)
    bound true = omega (arith, ints)
    bound false = omega (arith, ints)

    at_gap : (g : ℤ) → g ≤ℤ (pos (2 ^ 31) -ℤ first) → (first +ℤ pos ((natural g + (step - 1)) / step * step)) ≤ℤ pos (2 ^ 31 - 1 + step)
    at_gap (pos n) h = let k = div-mul-le_self (n + (step - 1)) step in omega (arith, ints)
    at_gap (negsuc n) h = let k = div-mul-le_self (0 + (step - 1)) step in omega (arith, ints)

pub no_turns : (first to : ℤ) (inclusive : Bool) (step : ℕ) → step ≡ 0 → turn_count first to inclusive step ≡ 0
no_turns first to inclusive step e =
    ap (λ s. (natural ((to -ℤ first) +ℤ pos (if inclusive then 1 else 0)) + (s - 1)) / s) e
    ∙ div-zero (natural ((to -ℤ first) +ℤ pos (if inclusive then 1 else 0)) + (0 - 1))
