-- What a transfer promises of a node's store (this project).
use Rattle.std.specs.Prelude.{◌≡◌, ◌<◌, ◌≢◌, ◌&&◌, ℕ, ℤ, Bool, true, not, List, [], ◌∷◌, map, filter, length}
use Rattle.std.specs.List.{sum_by, count_by}
use Rattle.xmp_map.specs.RowMajor.{row_major}
use Rattle.xmp_map.specs.Boxes.{IsInside}
use Rattle.xmp_move.specs.Ways.{Pair, Ways, fills}
use Rattle.xmp_move.specs.Stores.{IsIn, word_at, packed, write_all}

-- ---- what each node fills

-- a pair of the transfer whose target's cell a node needs
pub record IsNeeded (ways : Ways) (pairs : List Pair) (node : ℕ) (p : Pair) : Type 0 where
  pub among : IsIn p pairs
  pub needed : ways.needs node p.0 ≡ true

-- exactly one of the peers gives a pair's source to a node
pub record IsGiven (ways : Ways) (node : ℕ) (peers : List ℕ) (p : Pair) : Type 0 where
  pub giver : ℕ
  pub among : IsIn giver peers
  pub gives : ways.gives giver node p.1 ≡ true
  pub only : (k : ℕ) → IsIn k peers → ways.gives k node p.1 ≡ true → k ≡ giver

-- and that of each pair that a node needs
abbrev pub AreGiven : Ways → List Pair → (node : ℕ) → (peers : List ℕ) → Type 0
AreGiven ways pairs node peers = (p : Pair) → IsNeeded ways pairs node p → IsGiven ways node peers p

-- no element stands twice
unfoldable pub IsDistinct : {A : Type 0} → List A → Type 0
IsDistinct [] = Unit {0}
IsDistinct (x ∷ xs) = (IsIn x xs → ⊥) × IsDistinct xs

-- how many of the slots that a node fills from these peers pass a test
abbrev pub filled_by : (ℕ → Bool) → Ways → List Pair → (node : ℕ) → (peers : List ℕ) → ℕ
filled_by test ways pairs node peers = sum_by (λ k. count_by test (fills ways pairs node k)) peers

-- the slots of the cells that a node needs, one for each cell
abbrev pub needed_slots : Ways → List Pair → (node : ℕ) → List ℕ
needed_slots ways pairs node = map (λ p. ways.into node p.0) (filter (λ p. ways.needs node p.0) pairs)

-- the needed cells have slots of their own in a store
pub record HasRoom (ways : Ways) (pairs : List Pair) (node : ℕ) (store : List ℤ) : Type 0 where
  pub inside : (p : Pair) → IsNeeded ways pairs node p → ways.into node p.0 < length store
  pub apart : (p q : Pair) → IsNeeded ways pairs node p → IsNeeded ways pairs node q → ways.into node p.0 ≡ ways.into node q.0 → p ≡ q

-- After all packed and a node unpacked: each needed cell has the word of its source from before, and every other word stays.
pub record IsMoved (conv : ℤ → ℤ) (ways : Ways) (pairs : List Pair) (sources : ℕ → List ℤ) (own : List ℤ) (node : ℕ) (peers : List ℕ) (new : List ℤ) : Type 0 where
  pub long : length new ≡ length own
  pub filled : (p : Pair) → IsNeeded ways pairs node p → (k : ℕ) → IsIn k peers → ways.gives k node p.1 ≡ true
      → word_at new (ways.into node p.0) ≡ conv (word_at (sources k) (ways.out_of k p.1))
  pub stays : (slot : ℕ) → ((p : Pair) → IsNeeded ways pairs node p → ways.into node p.0 ≢ slot)
      → word_at new slot ≡ word_at own slot

-- ---- arrays

-- the cells of an array that a node has stand in its store: each in its slot
abbrev pub Shows : (extents : List ℕ) → (has : List ℕ → Bool) → (slot : List ℕ → ℕ) → (store array : List ℤ) → Type 0
Shows extents has slot store array =
    (cell : List ℕ) → IsInside cell extents → has cell ≡ true → word_at store (slot cell) ≡ word_at array (row_major extents cell)

-- the cells of a box that a node has are in slots of their own in its store
pub record HasSlots (extents : List ℕ) (has : List ℕ → Bool) (slot : List ℕ → ℕ) (store : List ℤ) : Type 0 where
  pub inside : (cell : List ℕ) → IsInside cell extents → has cell ≡ true → slot cell < length store
  pub apart : (cell other : List ℕ) → IsInside cell extents → IsInside other extents → has cell ≡ true → has other ≡ true
      → slot cell ≡ slot other → cell ≡ other

-- each target's cell lies in its array, and is given one source's cell
pub record IsAssignment (extents : List ℕ) (pairs : List Pair) : Type 0 where
  pub inside : (p : Pair) → IsIn p pairs → IsInside p.0 extents
  pub one : (p q : Pair) → IsIn p pairs → IsIn q pairs → p.0 ≡ q.0 → p ≡ q

-- the whole assignment over whole arrays: the source is read whole, then the target is written
abbrev pub assigned : (ℤ → ℤ) → (target_extents source_extents : List ℕ) → List Pair → (source target : List ℤ) → List ℤ
assigned conv te se pairs source target =
    write_all target (map (λ p. row_major te p.0) pairs) (map conv (packed source (map (λ p. row_major se p.1) pairs)))

-- a reflect: who holds a cell and doesn't own it gets it from its owner
abbrev pub reflecting : (holds owns : ℕ → List ℕ → Bool) → (slot : ℕ → List ℕ → ℕ) → Ways
reflecting holds owns slot = record {
  needs = λ node cell. holds node cell && not (owns node cell);
  gives = λ from to cell. owns from cell;
  into = slot;
  out_of = slot;
}

-- each cell beside itself
abbrev pub selves : List (List ℕ) → List Pair
selves cells = map (λ c. (c, c)) cells

-- exactly one of the peers owns a cell
pub record HasOwner (owns : ℕ → List ℕ → Bool) (peers : List ℕ) (cell : List ℕ) : Type 0 where
  pub owner : ℕ
  pub among : IsIn owner peers
  pub owns_it : owns owner cell ≡ true
  pub only : (k : ℕ) → IsIn k peers → owns k cell ≡ true → k ≡ owner
