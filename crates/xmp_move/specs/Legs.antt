-- One section of a transfer between two nodes (this project).
use Rattle.std.specs.Prelude.{ℕ, ◌+◌, ◌*◌, ◌^◌, ◌<◌, ◌≤◌, ◌≡◌, Bool, ◌&&◌, nat_lt, List, map, filter}
use Rattle.xmp_base.specs.Limits.{size_limit, cell_limit}
use Rattle.xmp_move.specs.declared.leg.Walk.{Walk}
use Rattle.xmp_move.specs.declared.leg.Leg.{Leg}
use Rattle.xmp_move.specs.Reaches.{reaches, ReachFits, position_in}
use Rattle.xmp_move.specs.Axes.{at, WalkFits}
use Rattle.xmp_move.specs.Sums.{share}

-- a place passes on both sides
abbrev pub leg_test : Leg → ℕ → Bool
leg_test leg k = reaches leg.needs (at leg.target k) && reaches leg.gives (at leg.source k)

-- what a place adds to the slot
abbrev pub leg_adds : Leg → ℕ → ℕ
leg_adds leg k = position_in leg.side (at leg.slots k) * leg.weight

abbrev pub share_of : Leg → List ℕ
share_of leg = share (leg_test leg) (leg_adds leg) leg.count

-- all places may be asked for
pub record LegFits (leg : Leg) : Type 0 where
  pub count : leg.count ≤ size_limit
  pub target : WalkFits leg.target leg.count leg.extents.0
  pub source : WalkFits leg.source leg.count leg.extents.1
  pub slots : WalkFits leg.slots leg.count leg.extents.2
  pub needs : ReachFits leg.needs leg.extents.0
  pub gives : ReachFits leg.gives leg.extents.1
  pub side : ReachFits leg.side leg.extents.2
  pub weight : leg.extents.2 * leg.weight ≤ cell_limit

-- a test that repeats after so many numbers
abbrev pub Repeats : (ℕ → Bool) → ℕ → Type 0
Repeats t n = (k : ℕ) → t (k + n) ≡ t k

-- what places add that lie so much further on, of those before a bound
abbrev pub adds_further : (ℕ → ℕ) → (to further : ℕ) → List ℕ → List ℕ
adds_further f to d places = map f (filter (λ k. nat_lt k to) (map (λ k. k + d) places))
