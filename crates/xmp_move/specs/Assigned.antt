-- What a gmove leaves in the store of a node (XcalableMP 1.4, gmove construct; the slots are this project's).
use Rattle.std.specs.Prelude.{◌≡◌, ◌≢◌, ◌⊎◌, ◌<◌, ◌≤◌, ◌+◌, ℕ, ℤ, true, false, List, [], map, length, None}
use Rattle.std.specs.List.{zip}
use Rattle.xmp_map.specs.RowMajor.{product, unravel}
use Rattle.xmp_map.specs.Boxes.{IsInside}
use Rattle.xmp_map.specs.Held as held
use Rattle.xmp_prog.specs.declared.parts.Home.{Home}
use Rattle.xmp_prog.specs.declared.parts.Home.TheVariants as home
use Rattle.xmp_meaning.specs.Layouts.{Packed, words_of}
use Rattle.xmp_meaning.specs.Sections.{Chosen, lengths}
use Rattle.xmp_num.specs.declared.types.Ty.{Ty}
use Rattle.xmp_move.specs.declared.kind.Side.{Side}
use Rattle.xmp_move.specs.declared.kind.MoveKind.TheVariants.{Gmove}
use Rattle.xmp_move.specs.Ways.{Pair, Ways}
use Rattle.xmp_move.specs.Cells.{pairs_between}
use Rattle.xmp_move.specs.Numbers.{target_chosen, source_chosen}
use Rattle.xmp_move.specs.Kinds.{numbers_of}
use Rattle.xmp_move.specs.Faults.{first_fault, move_fault}
use Rattle.xmp_move.specs.Sides.{owns_cell, holds_cell, gives_cell, position}
use Rattle.xmp_move.specs.Stores.{IsIn, word_at, unpacked_of}
use Rattle.xmp_move.specs.Whole.{Shows, HasSlots, assigned}
use Rattle.xmp_move.specs.Laid.{IsLaidOut, MapFits}
use Rattle.xmp_move.specs.Kept.{IsOfCode}
use Rattle.xmp_move.specs.Meant.{aim_of}
use Rattle.xmp_move.specs.Plans.{peers_of}

-- a target's cell is written at its owner, or at each node where the target isn't spread; each side has slots of its own
abbrev pub moving : (target source : Home) → (into out_of : (node : ℕ) → (cell : List ℕ) → ℕ) → Ways
moving target source into out_of = record { needs = owns_cell target; gives = gives_cell source; into = into; out_of = out_of }

-- The numbers of a gmove have no fault. Each dimension of a side has its numbers, and a source with a section has as many of them
-- as its target.
pub record AreGood (target_extents : List ℕ) (to : List Chosen) (source_extents : List ℕ) (from : List Chosen) : Type 0 where
  pub none : first_fault target_extents to source_extents from ≡ None
  pub target : length to ≡ length target_extents
  pub source : length from ≡ length source_extents
  pub sections : (lengths from ≡ []) ⊎ (length (lengths from) ≡ length (lengths to))

-- a list has all nodes, in any order
pub record AreNodes (count : ℕ) (peers : List ℕ) : Type 0 where
  pub all : (node : ℕ) → node < count → IsIn node peers
  pub only : (node : ℕ) → IsIn node peers → node < count

-- an array with these extents over so many nodes, as the code's types have it
abbrev pub IsOver : Home → (count : ℕ) → Type 0
IsOver (home.Spread t m) count = held.node_count m ≡ count
IsOver home.Copy count = Unit {0}
IsOver home.Image count = Unit {0}

pub record IsArray (h : Home) (extents : List ℕ) (count : ℕ) : Type 0 where
  pub code : IsOfCode h
  pub map : MapFits h extents
  pub over : IsOver h count

-- After a gmove a node shows the whole assignment in the target's cells that are its own. Every other word is as it was, so also
-- those of the cells that it holds and doesn't own.
pub record IsAssigned (conv : ℤ → ℤ) (target : Home) (target_extents source_extents : List ℕ) (pairs : List Pair) (node : ℕ) (into : List ℕ → ℕ)
    (source_values target_values own new : List ℤ) : Type 0 where
  pub long : length new ≡ length own
  pub whole : Shows target_extents (owns_cell target node) into new (assigned conv target_extents source_extents pairs source_values target_values)
  pub copies : (cell : List ℕ) → IsInside cell target_extents → holds_cell target node cell ≡ true → owns_cell target node cell ≡ false
      → word_at new (into cell) ≡ word_at own (into cell)
  pub stays : (slot : ℕ) → ((cell : List ℕ) → IsInside cell target_extents → owns_cell target node cell ≡ true → into cell ≢ slot)
      → word_at new slot ≡ word_at own slot

-- All nodes pack, then a node unpacks, in any order of its peers. Its store showed the target where the cells are its own, and what
-- each gives it is the source's: then it has the whole assignment. The two may be sections of one array, and a copy may be out
-- of date at other nodes.
abbrev pub GmovesArrays : Type 0
GmovesArrays = (conv : ℤ → ℤ) (target source : Home) (te se : List ℕ) (into out_of : ℕ → List ℕ → ℕ) (to from : List Chosen)
    (count node : ℕ) (peers : List ℕ) (sources : ℕ → List ℤ) (own source_values target_values : List ℤ)
    → AreGood te to se from
    → IsArray target te count → IsArray source se count → node < count → AreNodes count peers
    → HasSlots te (holds_cell target node) (into node) own
    → length target_values ≡ product te
    → Shows te (owns_cell target node) (into node) own target_values
    → ((k : ℕ) → k < count → Shows se (gives_cell source k node) (out_of k) (sources k) source_values)
    → IsAssigned conv target te se (pairs_between to from) node (into node) source_values target_values own
    (unpacked_of conv (moving target source into out_of) (pairs_between to from) sources own node peers)

-- what the meaning aims at, by the numbers of the cells, are the pairs
abbrev pub AimsArePairs : Type 0
AimsArePairs = (te se : List ℕ) (to from : List Chosen) → AreGood te to se from
    → zip (map (unravel te) (aim_of te se (pairs_between to from)).targets) (map (unravel se) (aim_of te se (pairs_between to from)).sources)
    ≡ pairs_between to from

-- the cells that a node holds of an array have slots of their own in a row of its words
abbrev pub RowsAreKept : Type 0
RowsAreKept = (h : Home) (extents : List ℕ) (node : ℕ) (row : List ℤ) → IsOfCode h → MapFits h extents → words_of (Packed node) h (product extents) ≤ length row
    → HasSlots extents (holds_cell h node) (position h extents node) row

-- what a plan's gmove stands on
abbrev pub PlansAreGood : Type 0
PlansAreGood = (target source : Side) (ty : Ty) (args : List ℤ) (node : ℕ) → IsLaidOut (Gmove target source ty) node
    → length args ≡ numbers_of (Gmove target source ty) → move_fault (Gmove target source ty) args ≡ None
    → AreGood target.extents (target_chosen target args) source.extents (source_chosen target source args)

abbrev pub PlansAreOfArrays : Type 0
PlansAreOfArrays = (target source : Side) (ty : Ty) (node : ℕ) → IsLaidOut (Gmove target source ty) node → IsOfCode target.home → IsOfCode source.home
    → IsArray target.home target.extents (peers_of (Gmove target source ty)) × IsArray source.home source.extents (peers_of (Gmove target source ty))
