-- Where a store's cells lie, as the interpreter keeps it: a line an array, an axis a dimension.
use Rattle.std.specs.Prelude.{◌≡◌, ◌<◌, ◌-◌, ◌&&◌, nat_le, nat_lt, ℕ, Bool, false, ℤ, pos, negsuc, ◌+ℤ◌, ◌*ℤ◌, List, [], ◌∷◌, ◌++◌, length, slice_index, Option, Some, None, if◌then◌else◌}
use Rattle.xmp_dist.specs.Count.{count_below}
use Rattle.xmp_map.specs.RowMajor.{product}
use Rattle.xmp_map.specs.declared.array_map.ArrayMap.{ArrayMap}
use Rattle.xmp_map.specs.Held as held
use Rattle.xmp_map.specs.Held.{holds_in}
use Rattle.xmp_prog.specs.declared.parts.ProgParts.{ProgParts}
use Rattle.xmp_prog.specs.declared.parts.Array.{Array}
use Rattle.xmp_prog.specs.Tests.{is_image}
use Rattle.xmp_meaning.specs.Runs.{Step}
use Rattle.xmp_meaning.specs.Layouts as layouts
use Rattle.xmp_meaning.specs.Layouts.{Layout, Whole, Packed, axes_of, kept, row_length}
use Rattle.xmp_meaning.specs.Context.{Context}
use Rattle.xmp_meaning.specs.Calls.{call_of, context_with}
use Rattle.xmp_serial.specs.declared.lines.Axis.{Axis}
use Rattle.xmp_serial.specs.declared.lines.Line.{Line}
use Rattle.xmp_serial.specs.declared.lines.Reach.{Reach}
use Rattle.xmp_serial.specs.declared.lines.Reach.TheVariants.{All, Chunk, Asked}

-- the layout of a store: that of a node, or whole rows
abbrev pub layout_of : Option ℕ → Layout
layout_of None = Whole
layout_of (Some node) = Packed node

-- what a run is read against, in a store of this layout
abbrev pub context_at : ProgParts → Option ℕ → ℕ → List ℕ → (ℕ → List ℤ → ℕ → Step (Unit {0}) ℤ) → Context
context_at p packed node input call = context_with p (layout_of packed) node input call

-- the same for main, which may call all functions
abbrev pub context_of : ProgParts → Option ℕ → ℕ → List ℕ → Context
context_of p packed node input = context_at p packed node input (call_of p node (length p.functions))

-- the position of a number among those that pass a test, and -1 where it doesn't pass
abbrev pub position_among : (ℕ → Bool) → ℕ → ℤ
position_among test x = if test x then pos (count_below test x) else negsuc 0

-- the position of a subscript
abbrev pub position_of : Reach → ℕ → ℤ
position_of All x = pos x
position_of (Chunk first end) x = if nat_le first x && nat_lt x end then pos (x - first) else negsuc 0
position_of (Asked at) x = if nat_lt x (slice_index (held.extents at.map) at.dimension) then position_among (holds_in at.map at.node at.dimension) x else negsuc 0

-- the number of a cell by the axes, of which the subscripts before give `so_far`
abbrev pub number_along : List Axis → ℤ → List ℕ → ℤ
number_along axes so_far [] = so_far
number_along [] so_far (x ∷ xs) = so_far
number_along (a ∷ axes) so_far (x ∷ xs) = number_along axes ((so_far *ℤ pos a.held) +ℤ position_of a.reach x) xs

-- An axis of the interpreter is one of the meaning, as far as there are subscripts.
pub record IsAxis (axis : Axis) (extent : ℕ) (meant : layouts.Axis) : Type 0 where
  pub extent_is : axis.extent ≡ extent
  pub count : axis.held ≡ meant.count
  pub position : (x : ℕ) → x < extent → position_of axis.reach x ≡ meant.position x

-- the same of each dimension
abbrev pub AreAxes : List Axis → List ℕ → List layouts.Axis → Type 0
AreAxes [] [] [] = Unit {0}
AreAxes (a ∷ axes) (n ∷ ns) (m ∷ ms) = IsAxis a n m × AreAxes axes ns ms
AreAxes [] [] (m ∷ ms) = ⊥
AreAxes [] (n ∷ ns) ms = ⊥
AreAxes (a ∷ axes) [] ms = ⊥
AreAxes (a ∷ axes) (n ∷ ns) [] = ⊥

-- A line is that of an array.
pub record IsLine (layout : Layout) (p : ProgParts) (line : Line) (a : Array) : Type 0 where
  pub axes : AreAxes line.axes a.extents (axes_of (kept layout a.home) a.extents)
  pub length_is : line.length ≡ row_length layout p a
  pub images : line.of_images ≡ is_image a.home
  pub cells_are : line.cells ≡ product a.extents

-- the same of each array
abbrev pub AreLines : Layout → ProgParts → List Line → List Array → Type 0
AreLines layout p [] [] = Unit {0}
AreLines layout p (l ∷ ls) (a ∷ all) = IsLine layout p l a × AreLines layout p ls all
AreLines layout p [] (a ∷ all) = ⊥
AreLines layout p (l ∷ ls) [] = ⊥

-- the line and the array of one number, where they are
abbrev pub LineAt : Layout → ProgParts → Option Line → Option Array → Type 0
LineAt layout p None None = Unit {0}
LineAt layout p (Some l) (Some a) = IsLine layout p l a
LineAt layout p None (Some a) = ⊥
LineAt layout p (Some l) None = ⊥

-- the axes of a line, whether it is a coarray's, and how many cells an image has of it; where there is none, those of an array without dimensions
abbrev pub axes_in : Option Line → List Axis
axes_in None = []
axes_in (Some l) = l.axes

abbrev pub images_in : Option Line → Bool
images_in None = false
images_in (Some l) = l.of_images

abbrev pub cells_in : Option Line → ℕ
cells_in None = 1
cells_in (Some l) = l.cells

-- an axis that keeps every subscript
abbrev pub keeps_all : ℕ → Axis
keeps_all n = record { extent = n; held = n; reach = All }

-- positions below an extent are those among the numbers that pass a test
abbrev pub Places : Reach → (ℕ → Bool) → ℕ → Type 0
Places reach test extent = (x : ℕ) → x < extent → position_of reach x ≡ position_among test x

-- axes of dimensions more
pub record AddsAxes (old new : List Axis) (ns : List ℕ) (ms : List layouts.Axis) : Type 0 where
  pub more : List Axis
  pub added : new ≡ old ++ more
  pub are : AreAxes more ns ms

-- A line keeps the cells of a distributed array that a node holds.
pub record IsSpreadLine (m : ArrayMap) (node : ℕ) (line : Line) (ns : List ℕ) : Type 0 where
  pub axes : AreAxes line.axes ns (axes_of (held.tests m node) ns)
  pub length_is : line.length ≡ held.words m node
  pub images : line.of_images ≡ false
  pub cells_are : line.cells ≡ product ns
