-- What the gathering of cells goes by: which cells a node holds, by their row-major numbers, and where the arrays begin in its
-- store (this project).
use Rattle.std.specs.Prelude.{◌≡◌, ◌<◌, ◌+◌, ℕ, Bool, List, length, map, take, ℤ}
use Rattle.std.specs.List.{range_with_len, sum_by}
use Rattle.xmp_dist.specs.Count.{count_below}
use Rattle.xmp_map.specs.declared.array_map.ArrayMap.{ArrayMap}
use Rattle.xmp_map.specs.RowMajor.{unravel}
use Rattle.xmp_map.specs.Held as held
use Rattle.xmp_prog.specs.declared.parts.Home.{Home}
use Rattle.xmp_prog.specs.declared.parts.Home.TheVariants as home
use Rattle.xmp_prog.specs.declared.parts.Kind.TheVariants.{Global}
use Rattle.xmp_prog.specs.declared.parts.ProgParts.{ProgParts}
use Rattle.xmp_prog.specs.Fits.{PartsFit, node_count}
use Rattle.xmp_meaning.specs.Declarations.{extents, home_of}
use Rattle.xmp_meaning.specs.Stores.{store_words}
use Rattle.xmp_nodes.specs.Lists.{HasAxes}
use Rattle.xmp_nodes.specs.Worlds.{World}
use Rattle.xmp_nodes.specs.Answers.{owner_among, word_on}

-- A program of one view for all nodes, whose parts fit.
pub record IsOneView (p : ProgParts) : Type 0 where
  pub fits : PartsFit p
  pub kind : p.kind ≡ Global
  pub axes : HasAxes p

-- ---- cells by their numbers

-- whether a node holds the cell of a number
abbrev pub holds_number : ArrayMap → (node n : ℕ) → Bool
holds_number m node n = held.holds m node (unravel (held.extents m) n)

-- how many cells before the one of a number a node holds
abbrev pub kept_before : ArrayMap → (node n : ℕ) → ℕ
kept_before m node n = count_below (holds_number m node) n

-- the cell of a number of an array, from its owner
abbrev pub cell_word : ProgParts → World → (array n : ℕ) → ℤ
cell_word p w array n =
    let cell = unravel (extents p array) n in
    word_on p w array (owner_among (home_of p array) cell (range_with_len 0 (node_count p))) cell

-- ---- where arrays begin

-- an array lies over nodes of which this is one
abbrev pub IsNodeOf : (node : ℕ) → Home → Type 0
IsNodeOf node home.Copy = Unit {0}
IsNodeOf node (home.Spread t m) = node < held.node_count m
IsNodeOf node home.Image = Unit {0}

-- where an array begins in the store of a node, where none is a coarray; where all do, and at all nodes
abbrev pub array_base : ProgParts → (node array : ℕ) → ℕ
array_base p node array = length p.scalars + sum_by (store_words node) (take array p.arrays)

abbrev pub node_bases : ProgParts → (node : ℕ) → List ℕ
node_bases p node = map (array_base p node) (range_with_len 0 (length p.arrays))

abbrev pub all_bases : ProgParts → List (List ℕ)
all_bases p = map (node_bases p) (range_with_len 0 (node_count p))
