-- A node's store (this project): the scalars by slot, then the cells that it keeps of each array that is no coarray,
-- in the order of their declarations; in a world the own cells of each coarray stand behind them.
use Rattle.std.specs.Prelude.{ℕ, ℤ, ◌+◌, ◌++◌, if◌then◌else◌, List, length, take}
use Rattle.std.specs.List.{flat_map, sum_by}
use Rattle.xmp_map.specs.RowMajor.{product}
use Rattle.xmp_prog.specs.declared.parts.ProgParts.{ProgParts}
use Rattle.xmp_prog.specs.declared.parts.Array.{Array}
use Rattle.xmp_prog.specs.Tests.{is_image}
use Rattle.xmp_meaning.specs.Runs.{State}
use Rattle.xmp_meaning.specs.Declarations.{is_coarray}
use Rattle.xmp_meaning.specs.Layouts.{Packed, words_of}

-- the words of an array on a node: the cells that it holds of a distributed one, all of a copy, those of one image of
-- a coarray
abbrev pub array_words : ℕ → Array → ℕ
array_words node a = words_of (Packed node) a.home (product a.extents)

-- how many words a node has: its scalars, and its words of every array
abbrev pub words_on : ProgParts → ℕ → ℕ
words_on p node = length p.scalars + sum_by (array_words node) p.arrays

-- the words of an array in its store, and those that stand behind the store
abbrev pub store_words : ℕ → Array → ℕ
store_words node a = if is_image a.home then 0 else array_words node a

abbrev pub image_words : Array → ℕ
image_words a = if is_image a.home then product a.extents else 0

-- how long a node's store is, without the coarrays
abbrev pub store_length : ProgParts → ℕ → ℕ
store_length p node = length p.scalars + sum_by (store_words node) p.arrays

-- how many coarray cells an image has
abbrev pub image_cells : ProgParts → ℕ
image_cells p = sum_by image_words p.arrays

-- where the words of an array begin, behind those of the arrays declared before it
abbrev pub base_of : ProgParts → (node array : ℕ) → ℕ
base_of p node array =
    if is_coarray p array then store_length p node + sum_by image_words (take array p.arrays)
    else length p.scalars + sum_by (store_words node) (take array p.arrays)

-- the words of a node's store, from its state: a program without coarrays has all of them there
abbrev pub store_of : {X : Type 0} → State X → List ℤ
store_of s = s.scalars ++ flat_map (λ row. row) s.arrays
