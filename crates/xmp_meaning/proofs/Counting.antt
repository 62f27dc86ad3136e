-- How many turns a counted loop makes.
use Rattle.std.proofs.Common.{◌≡◌, ◌+◌, ◌-◌, ◌*◌, ◌/◌, ◌<◌, ◌≤◌, ℕ, suc, true, false, arith}
use Rattle.std.specs.Prelude.{ℤ, pos, ◌+ℤ◌, ◌-ℤ◌, int_lt, int_le}
use Rattle.std.proofs.Math.Nat.{le-div_iff_mul-le}
use Rattle.std.proofs.lemmas.Int.{ints}
use Rattle.xmp_meaning.specs.Expressions.{natural}
use Rattle.xmp_meaning.specs.Laws.{TurnsAreCounted}

few_turns : (g step k : ℕ) → 1 ≤ step → k * step < g → k < (g + (step - 1)) / step
few_turns g step k some lt = (le-div_iff_mul-le {k = step} {x = suc k} {y = g + (step - 1)} some).1 (let e : suc k * step ≤ g + (step - 1) = omega (arith, some, lt) in e)

enough_turns : (g step k : ℕ) → 1 ≤ step → k < (g + (step - 1)) / step → k * step < g
enough_turns g step k some lt =
    let e : suc k * step ≤ g + (step - 1) = (le-div_iff_mul-le {k = step} {x = suc k} {y = g + (step - 1)} some).0 lt in omega (arith, some, e)

gap_of : (from to : ℤ) (m : ℕ) → int_lt (from +ℤ pos m) to ≡ true → m < natural ((to -ℤ from) +ℤ pos 0)
gap_of from to m h = grind (arith, ints)

gap_inside : (from to : ℤ) (m : ℕ) → m < natural ((to -ℤ from) +ℤ pos 0) → int_lt (from +ℤ pos m) to ≡ true
gap_inside from to m h = grind (arith, ints)

gap_to : (from to : ℤ) (m : ℕ) → int_le (from +ℤ pos m) to ≡ true → m < natural ((to -ℤ from) +ℤ pos 1)
gap_to from to m h = grind (arith, ints)

gap_up_to : (from to : ℤ) (m : ℕ) → m < natural ((to -ℤ from) +ℤ pos 1) → int_le (from +ℤ pos m) to ≡ true
gap_up_to from to m h = grind (arith, ints)

pub turns_are_counted : TurnsAreCounted
turns_are_counted from to false step k some =
    ((λ h. few_turns _ step k some (gap_of from to (k * step) h)), (λ h. gap_inside from to (k * step) (enough_turns _ step k some h)))
turns_are_counted from to true step k some =
    ((λ h. few_turns _ step k some (gap_to from to (k * step) h)), (λ h. gap_up_to from to (k * step) (enough_turns _ step k some h)))
