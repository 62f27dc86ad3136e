-- Where the nodes keep the cells of a side (this project).
use Rattle.std.specs.Prelude.{◌≡◌, ◌≤◌, ◌<◌, ◌+◌, ℕ, ℤ, true, List, length, None}
use Rattle.std.specs.List.{range_with_len}
use Rattle.xmp_num.specs.declared.types.Ty.{Ty}
use Rattle.xmp_map.specs.declared.array_map.ArrayMap.{ArrayMap}
use Rattle.xmp_map.specs.RowMajor.{row_major}
use Rattle.xmp_map.specs.Boxes.{IsInside}
use Rattle.xmp_map.specs.Held as held
use Rattle.xmp_prog.specs.declared.parts.Home.{Home}
use Rattle.xmp_prog.specs.declared.parts.Home.TheVariants as home
use Rattle.xmp_move.specs.declared.kind.Side.{Side}
use Rattle.xmp_move.specs.declared.kind.MoveKind.TheVariants.{Reflect, Gmove}
use Rattle.xmp_move.specs.Numbers.{target_chosen}
use Rattle.xmp_move.specs.Kinds.{ways_of, pairs_of}
use Rattle.xmp_move.specs.Faults.{move_fault}
use Rattle.xmp_move.specs.Sides.{owns_cell, holds_cell, slot_in, words_in}
use Rattle.xmp_move.specs.Laid.{MapFits}
use Rattle.xmp_move.specs.Stores.{word_at, unpacked_of}
use Rattle.xmp_move.specs.Whole.{Shows, HasSlots, HasOwner, IsAssignment}

-- what the code's types say of a map: each of its lists has three items
pub record HasThree (m : ArrayMap) : Type 0 where
  pub aligned : length m.aligned ≡ 3
  pub spread : length m.template.spread ≡ 3
  pub sizes : length m.template.grid.sizes ≡ 3

abbrev pub IsOfCode : Home → Type 0
IsOfCode (home.Spread t m) = HasThree m
IsOfCode home.Copy = Unit {0}
IsOfCode home.Image = Unit {0}

-- at each node the cells that it holds of a side have slots of their own in a store with all the words of the side
abbrev pub SidesAreKept : Type 0
SidesAreKept = (side : Side) (node : ℕ) (store : List ℤ) → IsOfCode side.home → MapFits side.home side.extents
    → side.base + words_in side node ≤ length store
    → HasSlots side.extents (holds_cell side.home node) (slot_in side node) store

-- exactly one of the nodes owns a cell of a distributed array
abbrev pub CellsAreOwned : Type 0
CellsAreOwned = (t : ℕ) (m : ArrayMap) (extents cell : List ℕ) → HasThree m → MapFits (home.Spread t m) extents → IsInside cell extents
    → HasOwner (owns_cell (home.Spread t m)) (range_with_len 0 (held.node_count m)) cell

-- and it holds the cell
abbrev pub OwnersHold : Type 0
OwnersHold = (t : ℕ) (m : ArrayMap) (extents cell : List ℕ) (node : ℕ) → HasThree m → MapFits (home.Spread t m) extents → IsInside cell extents
    → node < held.node_count m → owns_cell (home.Spread t m) node cell ≡ true → holds_cell (home.Spread t m) node cell ≡ true

-- The pairs of a gmove without a fault are an assignment: each target's cell lies in its array, and is given one source's cell. Each
-- dimension of the target has its numbers.
abbrev pub GmovesAssign : Type 0
GmovesAssign = (target source : Side) (ty : Ty) (args : List ℤ) → move_fault (Gmove target source ty) args ≡ None
    → length (target_chosen target args) ≡ length target.extents
    → IsAssignment target.extents (pairs_of (Gmove target source ty) args)

-- After a reflect of a distributed array a node's store shows the owners' values in all cells that it holds, the corners of shadows too:
-- whatever array of values the nodes' stores show where they own its cells. The values lie in the type of the unpacking.
abbrev pub ReflectsArrays : Type 0
ReflectsArrays = (conv : ℤ → ℤ) (array : Side) (t : ℕ) (m : ArrayMap) (args : List ℤ) (sources : ℕ → List ℤ) (node : ℕ) (values : List ℤ)
    → array.home ≡ home.Spread t m → HasThree m → MapFits array.home array.extents
    → array.base + words_in array node ≤ length (sources node)
    → node < held.node_count m
    → ((cell : List ℕ) → IsInside cell array.extents → conv (word_at values (row_major array.extents cell)) ≡ word_at values (row_major array.extents cell))
    → ((k : ℕ) → k < held.node_count m → Shows array.extents (owns_cell array.home k) (slot_in array k) (sources k) values)
    → Shows array.extents (holds_cell array.home node) (slot_in array node)
    (unpacked_of conv (ways_of (Reflect array)) (pairs_of (Reflect array) args) sources (sources node) node (range_with_len 0 (held.node_count m))) values
