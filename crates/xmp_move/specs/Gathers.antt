-- The first sections of the sides of a transfer (this project).
use Rattle.std.specs.Prelude.{ℕ, ◌+◌, ◌^◌, ◌<◌, ◌≤◌, ◌≡◌, ◌⊎◌, Bool, true, List, [], ◌∷◌, length, map, All}
use Rattle.xmp_move.specs.declared.axis.Axis.{Axis}
use Rattle.xmp_move.specs.declared.leg.Walk.{Walk}
use Rattle.xmp_move.specs.declared.leg.Leg.{Leg}
use Rattle.xmp_move.specs.Picks.{counts, by_place}
use Rattle.xmp_move.specs.Reaches.{reaches}
use Rattle.xmp_move.specs.Axes.{picks, tests, adds, adds_at, at, AxisFits, AxesFit, WalkFits}
use Rattle.xmp_move.specs.Legs.{LegFits, share_of}
use Rattle.xmp_move.specs.Sums.{due_shares, due_slots}

-- a side has as many cells in each section as the target, or no section
abbrev pub FollowsIt : (target side : List ℕ) → Type 0
FollowsIt ns ms = (ms ≡ []) ⊎ (ms ≡ ns)

-- the first function, with those behind it, or none where the one that stands for it changes nothing
abbrev pub IsFirstOf : {A : Type 0} → (fs : List (ℕ → A)) → (f : ℕ → A) → (rest : List (ℕ → A)) → (neutral : A) → (count : ℕ) → Type 0
IsFirstOf fs f rest neutral n = (fs ≡ f ∷ rest) ⊎ ((fs ≡ []) × (rest ≡ []) × ((k : ℕ) → k < n → f k ≡ neutral))

-- the first section of a side that follows a section with this count, or one that changes nothing
pub record IsFollowed (count : ℕ) (axes : List Axis) (walk : Walk) (axis : Axis) (rest : List Axis) : Type 0 where
  pub walk_fits : (ns : List ℕ) → FollowsIt (count ∷ ns) (counts (picks axes)) → WalkFits walk count axis.extent
  pub counts : (ns : List ℕ) → FollowsIt (count ∷ ns) (counts (picks axes)) → FollowsIt ns (counts (picks rest))
  pub tests : IsFirstOf (by_place (picks axes) (tests axes)) (λ k. reaches axis.reach (at walk k)) (by_place (picks rest) (tests rest)) true count
  pub adds : IsFirstOf (by_place (picks axes) (adds axes)) (λ k. adds_at axis (at walk k)) (by_place (picks rest) (adds rest)) 0 count
  pub axis_fits : AxisFits axis
  pub rest_fits : AxesFit rest

-- the first section of a transfer, and the dimensions behind it
pub record IsLeg (target source slots : List Axis) (leg : Leg) (target_rest source_rest slots_rest : List Axis) : Type 0 where
  pub shares : due_shares (picks target) (picks source) (picks slots) (tests target) (tests source) (adds slots)
      ≡ share_of leg ∷ due_shares (picks target_rest) (picks source_rest) (picks slots_rest) (tests target_rest) (tests source_rest) (adds slots_rest)
  pub fits : LegFits leg
  pub target_fits : AxesFit target_rest
  pub source_fits : AxesFit source_rest
  pub slots_fit : AxesFit slots_rest
  pub source_follows : FollowsIt (counts (picks target_rest)) (counts (picks source_rest))
  pub slots_follow : FollowsIt (counts (picks target_rest)) (counts (picks slots_rest))
  pub fewer : length target_rest < length target

-- the slots of one side that are due, from a base on
abbrev pub gathered : (base : ℕ) → (needs gives slots : List Axis) → List ℕ
gathered base needs gives slots = map (λ r. base + r) (due_slots (picks needs) (picks gives) (picks slots) (tests needs) (tests gives) (adds slots))

-- they may be gathered, where any are due
pub record CanGather (is_due : Bool) (base : ℕ) (needs gives slots : List Axis) : Type 0 where
  pub needs_fit : AxesFit needs
  pub gives_fit : AxesFit gives
  pub slots_fit : AxesFit slots
  pub source_follows : FollowsIt (counts (picks needs)) (counts (picks gives))
  pub slots_follow : FollowsIt (counts (picks needs)) (counts (picks slots))
  pub few : length needs ≤ 3
  pub few_slots : length slots ≤ 3
  pub small : is_due ≡ true → All (λ r. base + r < 2 ^ 32) (due_slots (picks needs) (picks gives) (picks slots) (tests needs) (tests gives) (adds slots))
