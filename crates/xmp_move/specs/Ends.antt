-- The dimensions of the sides of a transfer at a node (this project).
use Rattle.std.specs.Prelude.{ℕ, ◌≡◌, ◌<◌, ◌≤◌, Bool, true, List, [], ◌∷◌, map, length}
use Rattle.xmp_map.specs.RowMajor.{product, unravel}
use Rattle.xmp_map.specs.Held as held
use Rattle.xmp_prog.specs.declared.parts.Home.{Home}
use Rattle.xmp_prog.specs.declared.parts.Home.TheVariants as home
use Rattle.xmp_move.specs.declared.pick.Pick.{Pick}
use Rattle.xmp_move.specs.declared.axis.Axis.{Axis}
use Rattle.xmp_move.specs.Reaches.{IsReach, position_in}

-- which subscripts a node owns, dimension by dimension; what isn't spread over a template is each node's own
abbrev pub owned_tests : Home → (node : ℕ) → List (ℕ → Bool)
owned_tests (home.Spread t m) node = map (λ l. held.owns_on m.template.spread (unravel m.template.grid.sizes node) l) m.aligned
owned_tests home.Copy node = (λ _. true) ∷ (λ _. true) ∷ (λ _. true) ∷ []
owned_tests home.Image node = (λ _. true) ∷ (λ _. true) ∷ (λ _. true) ∷ []

-- and which it holds
abbrev pub held_tests : Home → (node : ℕ) → List (ℕ → Bool)
held_tests (home.Spread t m) node = held.tests m node
held_tests home.Copy node = (λ _. true) ∷ (λ _. true) ∷ (λ _. true) ∷ []
held_tests home.Image node = (λ _. true) ∷ (λ _. true) ∷ (λ _. true) ∷ []

-- the extents are those of the map, and the node is one of its grid
abbrev pub HomeFits : Home → (extents : List ℕ) → (node : ℕ) → Type 0
HomeFits (home.Spread t m) extents node = (extents ≡ held.extents m) × (node < held.node_count m)
HomeFits home.Copy extents node = Unit {0}
HomeFits home.Image extents node = Unit {0}

-- a dimension with this extent, of which this is named, and with the subscripts that pass a test; it adds nothing to a slot
pub record IsAxis (a : Axis) (extent : ℕ) (pick : Pick) (test : ℕ → Bool) : Type 0 where
  pub extent_is : a.extent ≡ extent
  pub pick_is : a.pick ≡ pick
  pub weight_is : a.weight ≡ 0
  pub reach_is : IsReach a.reach extent test

pub data IsAxes : List Axis → (extents : List ℕ) → List Pick → List (ℕ → Bool) → Type 0 where
  no_axis : IsAxes [] [] [] []
  an_axis : (a : Axis) (e : ℕ) (p : Pick) (t : ℕ → Bool) (axes : List Axis) (es : List ℕ) (ps : List Pick) (ts : List (ℕ → Bool))
      → IsAxis a e p t → IsAxes axes es ps ts → IsAxes (a ∷ axes) (e ∷ es) (p ∷ ps) (t ∷ ts)

-- how many subscripts of a dimension pass
abbrev pub count_of : Axis → ℕ
count_of a = position_in a.reach a.extent

-- each dimension adds as much as the later ones have cells
abbrev pub weighted : List Axis → List Axis
weighted [] = []
weighted (a ∷ axes) = record a { weight = product (map count_of axes) } ∷ weighted axes
