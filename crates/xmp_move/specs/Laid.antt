-- When a transfer is laid out for a node (this project).
use Rattle.std.specs.Prelude.{◌≡◌, ◌≤◌, ◌⊎◌, ◌+◌, ◌^◌, ℕ, Bool, true, false, IsTrue, List, [], ◌∷◌, length, take, Option, Some, None}
use Rattle.std.specs.List.{AllByRecursion, list_all, count_by}
use Rattle.xmp_base.specs.Limits.{cell_limit}
use Rattle.xmp_dist.specs.Valid.{is_extent}
use Rattle.xmp_map.specs.declared.grid.Grid.{Grid}
use Rattle.xmp_map.specs.RowMajor.{product}
use Rattle.xmp_map.specs.Held as held
use Rattle.xmp_prog.specs.declared.parts.Home.{Home}
use Rattle.xmp_prog.specs.declared.parts.Home.TheVariants as home
use Rattle.xmp_prog.specs.Tests.{is_image, is_spread}
use Rattle.xmp_move.specs.declared.kind.SidePart.{SidePart}
use Rattle.xmp_move.specs.declared.kind.SidePart.TheVariants as part
use Rattle.xmp_move.specs.declared.kind.Side.{Side}
use Rattle.xmp_move.specs.declared.kind.MoveKind.{MoveKind}
use Rattle.xmp_move.specs.declared.kind.MoveKind.TheVariants.{Reflect, Gmove}
use Rattle.xmp_move.specs.Sides.{words_in}

abbrev pub sides_of : MoveKind → List Side
sides_of (Reflect array) = array ∷ []
sides_of (Gmove target source ty) = target ∷ source ∷ []

-- a reflect is of a distributed array
abbrev pub IsOfSpread : MoveKind → Type 0
IsOfSpread (Reflect array) = IsTrue (is_spread array.home)
IsOfSpread (Gmove target source ty) = Unit {0}

-- the extents are those of the map
abbrev pub MapFits : Home → (extents : List ℕ) → Type 0
MapFits (home.Spread t m) extents = take m.dims (held.extents m) ≡ extents
MapFits home.Copy extents = Unit {0}
MapFits home.Image extents = Unit {0}

-- the grid under a side's map
abbrev pub grid_of : Home → Option Grid
grid_of (home.Spread t m) = Some m.template.grid
grid_of home.Copy = None
grid_of home.Image = None

-- two maps have one grid
abbrev pub AreOfOneGrid : Option Grid → Option Grid → Type 0
AreOfOneGrid (Some g) (Some h) = g ≡ h
AreOfOneGrid (Some g) None = Unit {0}
AreOfOneGrid None h = Unit {0}

abbrev pub IsOfOneGrid : MoveKind → Type 0
IsOfOneGrid (Reflect array) = Unit {0}
IsOfOneGrid (Gmove target source ty) = AreOfOneGrid (grid_of target.home) (grid_of source.home)

-- how many sections a side has
abbrev pub is_section : SidePart → Bool
is_section part.One = false
is_section part.Many = true

abbrev pub sections : Side → ℕ
sections side = count_by is_section side.parts

-- a source with a section has as many of them as its target
abbrev pub SectionsFit : MoveKind → Type 0
SectionsFit (Reflect array) = Unit {0}
SectionsFit (Gmove target source ty) = (sections source ≡ 0) ⊎ (sections source ≡ sections target)

-- a side has a part for each dimension; those of a reflect are ignored
abbrev pub PartsFit : MoveKind → Type 0
PartsFit (Reflect array) = Unit {0}
PartsFit (Gmove target source ty) = (length target.parts ≡ length target.extents) × (length source.parts ≡ length source.extents)

-- two sides are one array
pub record IsOneArray (a b : Side) : Type 0 where
  pub home : a.home ≡ b.home
  pub extents : a.extents ≡ b.extents
  pub base : a.base ≡ b.base

-- or share no word of one store
abbrev pub ShareNoWord : Side → Side → (node : ℕ) → Type 0
ShareNoWord a b node = (a.base + words_in a node ≤ b.base) ⊎ (b.base + words_in b node ≤ a.base)

-- what a store that holds both sides asks of them; rows of their own ask nothing
abbrev pub ArraysFit : MoveKind → (node : ℕ) → Type 0
ArraysFit (Reflect array) node = Unit {0}
ArraysFit (Gmove target source ty) node = IsOneArray target source ⊎ ShareNoWord target source node

-- A transfer is laid out for a node.
pub record IsLaidOut (kind : MoveKind) (node : ℕ) : Type 0 where
  -- no side is a coarray
  pub no_image : AllByRecursion (λ s. is_image s.home ≡ false) (sides_of kind)
  -- what is reflected is distributed
  pub spread : IsOfSpread kind
  -- the extents of a distributed side are its map's
  pub maps : AllByRecursion (λ s. MapFits s.home s.extents) (sides_of kind)
  -- the maps of two sides have one grid
  pub grid : IsOfOneGrid kind
  -- a side has at most three extents, each from 1 to 4,194,304
  pub dims : AllByRecursion (λ s. length s.extents ≤ 3) (sides_of kind)
  pub extents : AllByRecursion (λ s. IsTrue (list_all is_extent s.extents)) (sides_of kind)
  -- and at most 4,194,304 cells
  pub cells : AllByRecursion (λ s. product s.extents ≤ cell_limit) (sides_of kind)
  -- a side has a part for each dimension
  pub parts : PartsFit kind
  -- its words at the node have numbers below 2^32
  pub words : AllByRecursion (λ s. s.base + words_in s node ≤ 2 ^ 32) (sides_of kind)
  -- a source with a section has as many of them as its target
  pub sections : SectionsFit kind
