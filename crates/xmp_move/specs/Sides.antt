-- The sides of a transfer: which nodes own and hold a cell, and the slot of a cell in a node's store (XcalableMP 1.4, align and
-- shadow; the slots are this project's).
use Rattle.std.specs.Prelude.{ℕ, ◌+◌, ◌-◌, ◌==◌, Bool, true, List, ◌++◌, length, replicate}
use Rattle.xmp_map.specs.RowMajor.{product, row_major}
use Rattle.xmp_map.specs.Held as held
use Rattle.xmp_prog.specs.declared.parts.Home.{Home}
use Rattle.xmp_prog.specs.declared.parts.Home.TheVariants as home
use Rattle.xmp_meaning.specs.Layouts.{Packed, words_of}
use Rattle.xmp_move.specs.declared.kind.Side.{Side}

-- a cell's subscripts in the three dimensions of a map; in those that its array doesn't have they are 0
abbrev pub padded : (cell : List ℕ) → List ℕ
padded cell = cell ++ replicate (3 - length cell) 0

-- whether a node owns a cell; what isn't spread over a template is each node's own
abbrev pub owns_cell : Home → (node : ℕ) → (cell : List ℕ) → Bool
owns_cell (home.Spread t m) node cell = held.owns m node (padded cell)
owns_cell home.Copy node cell = true
owns_cell home.Image node cell = true

-- whether it holds the cell
abbrev pub holds_cell : Home → (node : ℕ) → (cell : List ℕ) → Bool
holds_cell (home.Spread t m) node cell = held.holds m node (padded cell)
holds_cell home.Copy node cell = true
holds_cell home.Image node cell = true

-- whether a node gives a cell to another: its owner to all, and each node to itself what isn't spread
abbrev pub gives_cell : Home → (from to : ℕ) → (cell : List ℕ) → Bool
gives_cell (home.Spread t m) from to cell = held.owns m from (padded cell)
gives_cell home.Copy from to cell = from == to
gives_cell home.Image from to cell = from == to

-- where a cell stands among the words of its array on a node: its slot among the cells that the node holds, or its row-major
-- number
abbrev pub position : Home → (extents : List ℕ) → (node : ℕ) → (cell : List ℕ) → ℕ
position (home.Spread t m) extents node cell = held.slot m node (padded cell)
position home.Copy extents node cell = row_major extents cell
position home.Image extents node cell = row_major extents cell

-- its slot in the node's store, behind the base of the side
abbrev pub slot_in : Side → (node : ℕ) → (cell : List ℕ) → ℕ
slot_in side node cell = side.base + position side.home side.extents node cell

-- how many words of a side a node has
abbrev pub words_in : Side → (node : ℕ) → ℕ
words_in side node = words_of (Packed node) side.home (product side.extents)
