-- What all plans of a transfer do together (this project).
use Rattle.std.specs.Prelude.{◌≡◌, ◌==◌, ◌&&◌, ℕ, ℤ, Bool, true, List, length}
use Rattle.std.specs.List.{count_by}
use Rattle.xmp_map.specs.RowMajor.{product, row_major}
use Rattle.xmp_map.specs.Boxes.{IsInside}
use Rattle.xmp_move.specs.Ways.{Pair, Ways, sends, fills}
use Rattle.xmp_move.specs.Stores.{IsIn, word_at, unpacked_of}
use Rattle.xmp_move.specs.Cells.{indices}
use Rattle.xmp_move.specs.Whole.{IsNeeded, AreGiven, IsDistinct, filled_by, needed_slots, HasRoom, IsMoved, Shows, HasSlots, IsAssignment, assigned, reflecting, selves, HasOwner}

-- the lists of two nodes are equally long
abbrev pub PlansFit : Type 0
PlansFit = (ways : Ways) (pairs : List Pair) (from to : ℕ) → length (sends ways pairs from to) ≡ length (fills ways pairs to from)

-- the slots that a node fills are those of the cells that it needs, each as often as there are such cells
abbrev pub FillsNeeded : Type 0
FillsNeeded = (test : ℕ → Bool) (ways : Ways) (pairs : List Pair) (node : ℕ) (peers : List ℕ)
    → IsDistinct peers → AreGiven ways pairs node peers
    → filled_by test ways pairs node peers ≡ count_by test (needed_slots ways pairs node)

-- the slot of a needed cell is filled exactly once
abbrev pub FillsOnce : Type 0
FillsOnce = (ways : Ways) (pairs : List Pair) (node : ℕ) (peers : List ℕ) (store : List ℤ) (p : Pair)
    → IsDistinct peers → IsDistinct pairs → AreGiven ways pairs node peers → HasRoom ways pairs node store → IsNeeded ways pairs node p
    → filled_by (λ slot. slot == ways.into node p.0) ways pairs node peers ≡ 1

-- all pack, then a node unpacks, in any order of its peers: the cells that it needs have their words, and every other word
-- stays
abbrev pub MovesAll : Type 0
MovesAll = (conv : ℤ → ℤ) (ways : Ways) (pairs : List Pair) (sources : ℕ → List ℤ) (own : List ℤ) (node : ℕ) (peers : List ℕ)
    → HasRoom ways pairs node own → AreGiven ways pairs node peers
    → IsMoved conv ways pairs sources own node peers (unpacked_of conv ways pairs sources own node peers)

-- A node whose store shows the target before, and which is given the source's words, shows the whole assignment after. The two
-- may be sections of one array.
abbrev pub MovesWhole : Type 0
MovesWhole = (conv : ℤ → ℤ) (ways : Ways) (pairs : List Pair) (sources : ℕ → List ℤ) (own : List ℤ) (node : ℕ) (peers : List ℕ)
    (target_extents source_extents : List ℕ) (source target : List ℤ)
    → length target ≡ product target_extents
    → HasSlots target_extents (ways.needs node) (ways.into node) own
    → IsAssignment target_extents pairs
    → AreGiven ways pairs node peers
    → ((p : Pair) → IsNeeded ways pairs node p → (k : ℕ) → IsIn k peers → ways.gives k node p.1 ≡ true
    → word_at (sources k) (ways.out_of k p.1) ≡ word_at source (row_major source_extents p.1))
    → Shows target_extents (ways.needs node) (ways.into node) own target
    → Shows target_extents (ways.needs node) (ways.into node)
    (unpacked_of conv ways pairs sources own node peers)
    (assigned conv target_extents source_extents pairs source target)

-- After a reflect a node's store shows the owners' values in all that it holds, where they lie in the type of the unpacking.
abbrev pub Reflects : Type 0
Reflects = (conv : ℤ → ℤ) (holds owns : ℕ → List ℕ → Bool) (slot : ℕ → List ℕ → ℕ) (extents : List ℕ)
    (sources : ℕ → List ℤ) (own : List ℤ) (node : ℕ) (peers : List ℕ) (array : List ℤ)
    → HasSlots extents (holds node) (slot node) own
    → ((cell : List ℕ) → IsInside cell extents → HasOwner owns peers cell)
    → ((cell : List ℕ) → IsInside cell extents → conv (word_at array (row_major extents cell)) ≡ word_at array (row_major extents cell))
    → ((k : ℕ) → IsIn k peers → Shows extents (owns k) (slot k) (sources k) array)
    → Shows extents (λ cell. holds node cell && owns node cell) (slot node) own array
    → Shows extents (holds node) (slot node)
    (unpacked_of conv (reflecting holds owns slot) (selves (indices extents)) sources own node peers) array
