-- Where a store keeps the cells of an array (this project; the cells that a node holds are those of XcalableMP 1.4,
-- distribute and shadow).
use Rattle.std.specs.Prelude.{ℕ, ◌*◌, Bool, if◌then◌else◌, List, [], ◌∷◌, ℤ, pos, negsuc, ◌+ℤ◌, ◌*ℤ◌}
use Rattle.xmp_dist.specs.Count.{count_below}
use Rattle.xmp_map.specs.RowMajor.{product}
use Rattle.xmp_map.specs.Held.{tests, words}
use Rattle.xmp_prog.specs.declared.parts.ProgParts.{ProgParts}
use Rattle.xmp_prog.specs.declared.parts.Array.{Array}
use Rattle.xmp_prog.specs.declared.parts.Home.{Home}
use Rattle.xmp_prog.specs.declared.parts.Home.TheVariants as home
use Rattle.xmp_prog.specs.Fits.{node_count}
use Rattle.xmp_prog.specs.Tests.{is_image}
use Rattle.xmp_meaning.specs.Declarations.{extents, home_of}

-- Whole rows, in row-major order; or packed: of a distributed array those cells alone that a node holds.
pub data Layout : Type 0 where
  Whole : Layout
  Packed : (node : ℕ) → Layout

-- A dimension of an array in a store: how many of its subscripts are kept, and the position of each among them.
pub record Axis : Type 0 where
  pub count : ℕ
  pub position : ℕ → ℤ

-- every subscript is kept
abbrev pub whole_axis : ℕ → Axis
whole_axis extent = record { count = extent; position = pos }

-- those are kept that pass a test: the position is the number of smaller ones, and -1 where the subscript isn't kept
abbrev pub packed_axis : (ℕ → Bool) → ℕ → Axis
packed_axis test extent = record {
  count = count_below test extent;
  position = λ x. if test x then pos (count_below test x) else negsuc 0;
}

-- one for each dimension; one without a test is whole
abbrev pub axes_of : List (ℕ → Bool) → List ℕ → List Axis
axes_of tests [] = []
axes_of [] (n ∷ ns) = whole_axis n ∷ axes_of [] ns
axes_of (t ∷ ts) (n ∷ ns) = packed_axis t n ∷ axes_of ts ns

-- which subscripts are kept, dimension by dimension
abbrev pub kept : Layout → Home → List (ℕ → Bool)
kept (Packed node) (home.Spread t m) = tests m node
kept _ _ = []

-- the axes of an array
abbrev pub axes : Layout → ProgParts → ℕ → List Axis
axes layout p array = axes_of (kept layout (home_of p array)) (extents p array)

-- The number of a cell in its row, of which the subscripts before give `so_far`: the positions, folded over the
-- counts in whole numbers.
abbrev pub number_from : List Axis → (so_far : ℤ) → List ℕ → ℤ
number_from [] so_far xs = so_far
number_from (a ∷ all) so_far [] = so_far
number_from (a ∷ all) so_far (x ∷ xs) = number_from all ((so_far *ℤ pos a.count) +ℤ a.position x) xs

-- The number of an image's cell: the cells of a coarray lie image after image, and those of any other array are of
-- image 0.
abbrev pub number_of : Layout → ProgParts → ℕ → (image : ℕ) → List ℕ → ℤ
number_of layout p array image xs =
    pos (image * product (extents p array)) +ℤ number_from (axes layout p array) (pos 0) xs

-- how many cells an array has, those of all images together
abbrev pub cell_count : ProgParts → Array → ℕ
cell_count p a = (if is_image a.home then node_count p else 1) * product a.extents

abbrev pub words_of : Layout → Home → (all : ℕ) → ℕ
words_of (Packed node) (home.Spread t m) all = words m node
words_of _ _ all = all

-- how many of them a store keeps
abbrev pub row_length : Layout → ProgParts → Array → ℕ
row_length layout p a = words_of layout a.home (cell_count p a)
