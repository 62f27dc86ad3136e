-- The dimensions of a side at a node: what is named of each, which subscripts pass, and what a subscript adds to a slot (this
-- project).
use Rattle.std.specs.Prelude.{ℕ, ◌+◌, ◌*◌, ◌≤◌, ◌<◌, ◌≡◌, Bool, List, [], ◌∷◌, map, length}
use Rattle.std.specs.List.{AllByRecursion}
use Rattle.xmp_base.specs.Limits.{size_limit, cell_limit}
use Rattle.xmp_dist.specs.Count.{count_below}
use Rattle.xmp_map.specs.RowMajor.{product}
use Rattle.xmp_move.specs.declared.pick.Pick.{Pick}
use Rattle.xmp_move.specs.declared.axis.Axis.{Axis}
use Rattle.xmp_move.specs.declared.leg.Walk.{Walk}
use Rattle.xmp_move.specs.Picks.{PickFits, counts, by_place}
use Rattle.xmp_move.specs.Reaches.{reaches, ReachFits, position_in}

abbrev pub picks : List Axis → List Pick
picks axes = map (λ a. a.pick) axes

abbrev pub tests : List Axis → List (ℕ → Bool)
tests axes = map (λ a. reaches a.reach) axes

abbrev pub adds_at : Axis → ℕ → ℕ
adds_at a x = position_in a.reach x * a.weight

abbrev pub adds : List Axis → List (ℕ → ℕ)
adds axes = map adds_at axes

abbrev pub extents : List Axis → List ℕ
extents axes = map (λ a. a.extent) axes

-- all that is named of a dimension lies below its extent, and adds a small number
pub record AxisFits (a : Axis) : Type 0 where
  pub pick : PickFits a.pick a.extent
  pub reach : ReachFits a.reach a.extent
  pub extent : a.extent ≤ size_limit
  pub weight : a.extent * a.weight ≤ cell_limit

abbrev pub AxesFit : List Axis → Type 0
AxesFit axes = AllByRecursion AxisFits axes

-- the subscript at a place
abbrev pub at : Walk → ℕ → ℕ
at walk k = walk.first + k * walk.step

-- a walk over subscripts below an extent
pub record WalkFits (walk : Walk) (count extent : ℕ) : Type 0 where
  pub step : (1 ≤ walk.step) × (walk.step ≤ size_limit)
  pub inside : (k : ℕ) → k < count → at walk k < extent
  pub small : extent ≤ size_limit

-- the first section of a side, its dimension, and the dimensions behind it
pub record IsSection (axes : List Axis) (count : ℕ) (walk : Walk) (axis : Axis) (rest : List Axis) : Type 0 where
  pub counts : counts (picks axes) ≡ count ∷ counts (picks rest)
  pub tests : by_place (picks axes) (tests axes) ≡ (λ k. reaches axis.reach (at walk k)) ∷ by_place (picks rest) (tests rest)
  pub adds : by_place (picks axes) (adds axes) ≡ (λ k. adds_at axis (at walk k)) ∷ by_place (picks rest) (adds rest)
  pub count_fits : count ≤ size_limit
  pub walk_fits : WalkFits walk count axis.extent
  pub axis_fits : AxisFits axis
  pub rest_fits : AxesFit rest
  pub fewer : length rest < length axes

-- the tests of a node agree with the code's below the extents
unfoldable pub Agree : List (ℕ → Bool) → List (ℕ → Bool) → List ℕ → Type 0
Agree [] [] [] = Unit {0}
Agree (t ∷ ts) (u ∷ us) (e ∷ es) = ((x : ℕ) → x < e → t x ≡ u x) × Agree ts us es
Agree _ _ _ = ⊥
