-- The plan of a node for a transfer: what it sends to each node, and what it fills from each (XcalableMP 1.4, reflect and gmove
-- constructs; the slots are this project's).
use Rattle.std.specs.Prelude.{◌≡◌, ◌<◌, ◌+◌, ◌==◌, not, ℕ, ℤ, Bool, true, List, map, length, All, Option, Some, None}
use Rattle.std.specs.List.{range_with_len}
use Rattle.xmp_base.specs.Limits.{node_limit}
use Rattle.xmp_map.specs.declared.grid.Grid.{Grid}
use Rattle.xmp_map.specs.RowMajor.{product}
use Rattle.xmp_prog.specs.declared.parts.Home.{Home}
use Rattle.xmp_prog.specs.declared.parts.Home.TheVariants as home
use Rattle.xmp_move.specs.declared.pick.Pick.{Pick}
use Rattle.xmp_move.specs.declared.kind.Fault.{Fault}
use Rattle.xmp_move.specs.declared.kind.Side.{Side}
use Rattle.xmp_move.specs.declared.kind.MoveKind.{MoveKind}
use Rattle.xmp_move.specs.declared.kind.MoveKind.TheVariants.{Reflect, Gmove}
use Rattle.xmp_move.specs.declared.plan.MoveError.{MoveError}
use Rattle.xmp_move.specs.declared.plan.MoveError.TheVariants as error
use Rattle.xmp_move.specs.Ways.{sends, fills}
use Rattle.xmp_move.specs.Numbers.{target_chosen, source_chosen}
use Rattle.xmp_move.specs.Kinds.{ways_of, pairs_of}
use Rattle.xmp_move.specs.Sides.{words_in}
use Rattle.xmp_move.specs.Laid.{grid_of}
use Rattle.xmp_move.specs.Picks.{picks_of, whole_picks}
use Rattle.xmp_move.specs.Ends.{owned_tests, held_tests}

-- the side that is written, and the one that is read
abbrev pub target_of : MoveKind → Side
target_of (Reflect array) = array
target_of (Gmove target source ty) = target

abbrev pub source_of : MoveKind → Side
source_of (Reflect array) = array
source_of (Gmove target source ty) = source

-- how many nodes a transfer has to do with: those of the grid of its maps, or 16 where it has none
abbrev pub peers_in : Option Grid → Option Grid → ℕ
peers_in (Some g) h = product g.sizes
peers_in None (Some h) = product h.sizes
peers_in None None = node_limit

abbrev pub peers_of : MoveKind → ℕ
peers_of kind = peers_in (grid_of (target_of kind).home) (grid_of (source_of kind).home)

-- the lists of a plan, node by node
pub record Lists : Type 0 where
  pub sends : List (List ℕ)
  pub fills : List (List ℕ)

-- the slots that a node sends to another, and those that it fills from it
abbrev pub sends_to : MoveKind → (args : List ℤ) → (node to : ℕ) → List ℕ
sends_to kind args node to = sends (ways_of kind) (pairs_of kind args) node to

abbrev pub fills_from : MoveKind → (args : List ℤ) → (node from : ℕ) → List ℕ
fills_from kind args node from = fills (ways_of kind) (pairs_of kind args) node from

-- these slots lie among the words of a side at a node
abbrev pub AreWordsOf : Side → (node : ℕ) → List ℕ → Type 0
AreWordsOf side node slots = All (λ s. s < side.base + words_in side node) slots

-- the plan of a node
pub record IsPlanOf (kind : MoveKind) (args : List ℤ) (node : ℕ) (p : Lists) : Type 0 where
  pub sends : p.sends ≡ map (sends_to kind args node) (range_with_len 0 (peers_of kind))
  pub fills : p.fills ≡ map (fills_from kind args node) (range_with_len 0 (peers_of kind))
  pub sent_inside : (to : ℕ) → to < peers_of kind → AreWordsOf (source_of kind) node (sends_to kind args node to)
  pub filled_inside : (from : ℕ) → from < peers_of kind → AreWordsOf (target_of kind) node (fills_from kind args node from)

-- the error of a fault; without one memory ran out
abbrev pub error_of : Option Fault → MoveError
error_of (Some f) = error.Trap f.kind f.source
error_of None = error.NoMemory

-- ---- the parts of a plan

-- what is named of the sides' dimensions
abbrev pub target_picks : MoveKind → (args : List ℤ) → List Pick
target_picks (Reflect array) args = whole_picks array.extents
target_picks (Gmove target source ty) args = picks_of (target_chosen target args)

abbrev pub source_picks : MoveKind → (args : List ℤ) → List Pick
source_picks (Reflect array) args = whole_picks array.extents
source_picks (Gmove target source ty) args = picks_of (source_chosen target source args)

-- the subscripts of the target that a node needs
abbrev pub needed_tests : MoveKind → (node : ℕ) → List (ℕ → Bool)
needed_tests (Reflect array) node = held_tests array.home node
needed_tests (Gmove target source ty) node = owned_tests target.home node

-- whether a node may give another anything: in a reflect only another, and what isn't spread only to itself
abbrev pub gives_over : Home → (from to : ℕ) → Bool
gives_over (home.Spread t m) from to = true
gives_over home.Copy from to = from == to
gives_over home.Image from to = from == to

abbrev pub may_give : MoveKind → (from to : ℕ) → Bool
may_give (Reflect array) from to = not (from == to)
may_give (Gmove target source ty) from to = gives_over source.home from to
