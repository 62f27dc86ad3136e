-- What it means that a node's run follows the serial run, along a plan; that a node outside a task is left as it was;
-- and that all nodes in step follow the run that notes each exchange.
use Rattle.std.specs.Prelude.{◌≡◌, ◌++◌, ℕ, zero, suc, ℤ, pos, Bool, true, false, List, [], length, map, slice_get, Option, Some, None}
use Rattle.xmp_num.specs.declared.types.Ty.{Ty}
use Rattle.xmp_num.specs.declared.types.RedOp.{RedOp}
use Rattle.xmp_num.specs.Arithmetic.{FitsType}
use Rattle.xmp_num.specs.Reduction.{combine_of}
use Rattle.xmp_map.specs.declared.array_map.ArrayMap.{ArrayMap}
use Rattle.xmp_map.specs.RowMajor.{row_major}
use Rattle.xmp_map.specs.Boxes.{IsInside}
use Rattle.xmp_prog.specs.declared.parts.ProgParts.{ProgParts}
use Rattle.xmp_prog.specs.declared.parts.Home.TheVariants as home
use Rattle.xmp_prog.specs.declared.statements.LoopDirective.{LoopDirective}
use Rattle.xmp_prog.specs.Fits.{node_count}
use Rattle.xmp_paths.specs.declared.event.Event.{Event}
use Rattle.xmp_paths.specs.Plans.{Plan, sequence, Path}
use Rattle.xmp_paths.specs.Safe.{left, Safe}
use Rattle.xmp_loops.specs.Objects.{scalar_object, array_object}
use Rattle.xmp_loops.specs.declared.role.Role.{Role}
use Rattle.xmp_loops.specs.declared.role.Role.TheVariants.{Shared, Index, Reduced, Own}
use Rattle.xmp_flow.specs.Setting.{Setting, is_reduced}
use Rattle.xmp_flow.specs.Program.{outermost}
use Rattle.xmp_meaning.specs.declared.ends.End.{End}
use Rattle.xmp_meaning.specs.declared.ends.Flow.{Flow}
use Rattle.xmp_meaning.specs.declared.ends.Flow.TheVariants.{Next}
use Rattle.xmp_meaning.specs.Runs.{State, StepIn, RunIn, Step, Run, Gave, Ended}
use Rattle.xmp_meaning.specs.Cells.{row_in}
use Rattle.xmp_meaning.specs.Declarations.{extents, home_of, scalar_type}
use Rattle.xmp_meaning.specs.Layouts.{Whole, row_length}
use Rattle.xmp_meaning.specs.Parts.{owns_iteration}
use Rattle.xmp_meaning.specs.Exchanges.{Notes}
use Rattle.xmp_meaning.specs.Messages.{sent}
use Rattle.xmp_meaning.specs.Traffic.{copied}
use Rattle.xmp_meaning.specs.TrafficLaws.{IsNodeState}
use Rattle.xmp_meaning_laws.specs.Laws.{ValuesLie, scalar_in}
use Rattle.xmp_move.specs.Sides.{owns_cell, holds_cell, position}
use Rattle.xmp_move.specs.Stores.{word_at}
use Rattle.xmp_move.specs.Whole.{Shows}
use Rattle.xmp_nodes.specs.Nodes.{Nodes, bounded}
use Rattle.xmp_nodes.specs.Worlds.{out_of}

-- ---- where a node's run stands

-- The program, the node, what was printed before the node's own text where that is known, what the other nodes have of
-- each reduction variable, and the setting.
pub record Stand : Type 0 where
  pub program : ProgParts
  pub node : ℕ
  pub base : Option (List ℕ)
  pub rest : ℕ → ℤ
  pub set : Setting

-- ---- two states

-- the state of the serial run: whole rows, values in their types
pub record IsWhole (p : ProgParts) (s : State Notes) : Type 0 where
  pub scalars : length s.scalars ≡ length p.scalars
  pub rows : map length s.arrays ≡ map (row_length Whole p) p.arrays
  pub values : ValuesLie Notes p s

-- a value is what others have, combined with one's own; all lie in the type
pub record IsSum (op : RedOp) (ty : Ty) (others all own : ℤ) : Type 0 where
  pub fits : FitsType ty others
  pub whole : all ≡ combine_of op ty others own

-- The node has the serial value of each scalar and each copy that isn't out of date, of the indices of a loop directive
-- round it, and of each cell that it owns; of a cell that it holds otherwise it has the value of the last reflect, which
-- is the serial one while the shadow is current; with what the others have a reduction variable is the serial one.
pub record Agrees (a : Stand) (stale : ℕ → Bool) (s : State Notes) (n : State (Unit {0})) : Type 0 where
  pub whole : IsWhole a.program s
  pub packed : IsNodeState a.program a.node n
  pub typed : (slot : ℕ) → FitsType (scalar_type a.program slot) (scalar_in n slot)
  pub scalars : (slot : ℕ) → is_reduced (a.set.roles slot) ≡ false → stale (scalar_object slot) ≡ false → scalar_in n slot ≡ scalar_in s slot
  pub indices : (slot : ℕ) → a.set.roles slot ≡ Index → scalar_in n slot ≡ scalar_in s slot
  pub sums : (slot : ℕ) (op : RedOp) → a.set.roles slot ≡ Reduced op → IsSum op (scalar_type a.program slot) (a.rest slot) (scalar_in s slot) (scalar_in n slot)
  pub copies : (array : ℕ) → home_of a.program array ≡ home.Copy → stale (array_object array) ≡ false → row_in n.arrays array ≡ row_in s.arrays array
  pub owned : (array t : ℕ) (m : ArrayMap) → home_of a.program array ≡ home.Spread t m
      → Shows (extents a.program array) (owns_cell (home.Spread t m) a.node) (position (home.Spread t m) (extents a.program array) a.node)
      (row_in n.arrays array) (row_in s.arrays array)
  pub shadows : (array t : ℕ) (m : ArrayMap) (cell : List ℕ) → home_of a.program array ≡ home.Spread t m → IsInside cell (extents a.program array)
      → holds_cell (home.Spread t m) a.node cell ≡ true → owns_cell (home.Spread t m) a.node cell ≡ false
      → word_at (row_in n.arrays array) (position (home.Spread t m) (extents a.program array) a.node cell)
      ≡ copied s.extra.exchanges array (row_major (extents a.program array) cell)
  pub current : (array t : ℕ) (m : ArrayMap) → home_of a.program array ≡ home.Spread t m → stale (array_object array) ≡ false → a.set.written array ≡ false
      → (number : ℕ) → copied s.extra.exchanges array number ≡ word_at (row_in s.arrays array) number
  pub point : (d : LoopDirective) → a.set.over ≡ Some d → owns_iteration a.program d a.node s ≡ true
  pub steps : n.steps ≡ s.steps
  pub out : (before : List ℕ) → a.base ≡ Some before → s.out ≡ before ++ n.out
  pub taken : a.node ≡ 0 → n.taken ≡ s.taken

-- ---- what the serial run leaves as it was

-- whether an iteration may change a scalar of this role
abbrev pub is_changed : Role → Bool
is_changed Shared = false
is_changed Index = false
is_changed (Reduced r) = true
is_changed Own = true

-- an iteration of a loop directive at its owner: what it doesn't write, and the cells of other owners, stay
pub record TurnLeaves (a : Stand) (s t : State Notes) : Type 0 where
  pub out : t.out ≡ s.out
  pub taken : t.taken ≡ s.taken
  pub scalars : (slot : ℕ) → is_changed (a.set.roles slot) ≡ false → scalar_in t slot ≡ scalar_in s slot
  pub rows : (array : ℕ) → a.set.written array ≡ false → row_in t.arrays array ≡ row_in s.arrays array
  pub cells : (array tm : ℕ) (m : ArrayMap) (cell : List ℕ) → home_of a.program array ≡ home.Spread tm m → IsInside cell (extents a.program array)
      → owns_cell (home.Spread tm m) a.node cell ≡ false
      → word_at (row_in t.arrays array) (row_major (extents a.program array) cell) ≡ word_at (row_in s.arrays array) (row_major (extents a.program array) cell)

-- between directives nothing is noted; in a task or a loop directive no step is taken
pub record Framed (a : Stand) (s t : State Notes) : Type 0 where
  pub extra : t.extra ≡ s.extra
  pub steps : a.set.inside ≡ true → t.steps ≡ s.steps
  pub turn : (d : LoopDirective) → a.set.over ≡ Some d → TurnLeaves a s t

-- ---- a node follows

-- both give one value, of which something is said, and agree along some way through the plan
pub record GoesOn {A : Type 0} (a : Stand) (V : A → Type 0) (plan : Plan Event) (stale : ℕ → Bool) (s : State Notes) (n : State (Unit {0}))
    (v : A) (t : State Notes) (w : A) (m : State (Unit {0})) : Type 0 where
  pub same : v ≡ w
  pub value : V v
  pub way : List Event
  pub path : Path plan way
  pub agrees : Agrees a (left a.node way stale) t m
  pub framed : Framed a s t

-- both come to one end, with one text
pub record EndsSo (a : Stand) (e : End) (t : State Notes) (f : End) (m : State (Unit {0})) : Type 0 where
  pub same : e ≡ f
  pub out : (before : List ℕ) → a.base ≡ Some before → t.out ≡ before ++ m.out

abbrev pub Along : {A : Type 0} → (a : Stand) → (A → Type 0) → Plan Event → (stale : ℕ → Bool) → State Notes → State (Unit {0})
    → Step Notes A → Step (Unit {0}) A → Type 0
Along a V plan stale s n (Gave v t) (Gave w m) = GoesOn a V plan stale s n v t w m
Along a V plan stale s n (Gave v t) (Ended f m) = ⊥
Along a V plan stale s n (Ended e t) (Gave w m) = ⊥
Along a V plan stale s n (Ended e t) (Ended f m) = EndsSo a e t f m

-- the node's run follows the serial run along the plan
abbrev pub Carried : {A : Type 0} → (a : Stand) → (A → Type 0) → Plan Event → Run Notes A → Run (Unit {0}) A → Type 0
Carried a V plan f g = (stale : ℕ → Bool) (s : State Notes) (n : State (Unit {0}))
    → Safe a.node plan stale → Agrees a stale s n → Along a V plan stale s n (f s) (g n)

abbrev pub Anything : {A : Type 0} → A → Type 0
Anything v = Unit {0}

abbrev pub IsNext : Flow → Type 0
IsNext flow = flow ≡ Next

-- ---- a node outside

-- the serial run leaves what the node, which does nothing, agrees on; nothing becomes current there
pub record StandsStill {A : Type 0} (a : Stand) (V : A → Type 0) (plan : Plan Event) (stale : ℕ → Bool) (s : State Notes) (n : State (Unit {0}))
    (v : A) (t : State Notes) : Type 0 where
  pub value : V v
  pub way : List Event
  pub path : Path plan way
  pub kept : (object : ℕ) → stale object ≡ true → left a.node way stale object ≡ true
  pub agrees : Agrees a (left a.node way stale) t n
  pub framed : Framed a s t

abbrev pub Still : {A : Type 0} → (a : Stand) → (A → Type 0) → Plan Event → (stale : ℕ → Bool) → State Notes → State (Unit {0}) → Step Notes A → Type 0
Still a V plan stale s n (Gave v t) = StandsStill a V plan stale s n v t
Still a V plan stale s n (Ended e t) = Unit {0}

abbrev pub Skipped : {A : Type 0} → (a : Stand) → (A → Type 0) → Plan Event → Run Notes A → Type 0
Skipped a V plan f = (stale : ℕ → Bool) (s : State Notes) (n : State (Unit {0})) → Agrees a stale s n → Still a V plan stale s n (f s)

-- ---- all nodes

-- node 0 prints what the program does
abbrev pub base_at : ℕ → Option (List ℕ)
base_at zero = Some []
base_at (suc k) = None

-- a node at the body of main
abbrev pub at_main : ProgParts → (node : ℕ) → Stand
at_main p node = record { program = p; node = node; base = base_at node; rest = λ slot. pos 0; set = outermost p }

-- a node agrees, and the plan is safe there from what it has out of date
pub record ReadyAt (p : ProgParts) (node : ℕ) (plan : Plan Event) (s : State Notes) (n : State (Unit {0})) : Type 0 where
  pub stale : ℕ → Bool
  pub safe : Safe node plan stale
  pub agrees : Agrees (at_main p node) stale s n

-- the nodes' counts are those of the notes, up to the greatest number
pub record Counted (p : ProgParts) (notes : Notes) (made : List ℕ) (lines : List (List ℕ)) : Type 0 where
  pub many : length made ≡ node_count p
  pub turns : made ≡ map bounded notes.turns
  pub rows : length lines ≡ node_count p
  pub row : (from : ℕ) (row : List ℕ) → slice_get lines from ≡ Some row → length row ≡ node_count p
  pub sent : (from to n : ℕ) (row : List ℕ) → slice_get lines from ≡ Some row → slice_get row to ≡ Some n → n ≡ bounded (sent p notes.exchanges from to)

-- every node is ready for a plan
pub record Ready (p : ProgParts) (plan : Plan Event) (s : State Notes) (w : Nodes) : Type 0 where
  pub many : length w.stores ≡ node_count p
  pub nodes : (node : ℕ) (n : State (Unit {0})) → slice_get w.stores node ≡ Some n → ReadyAt p node plan s n
  pub counts : Counted p s.extra w.turns w.sent

-- Both give one value, of which something is said, and every node is ready for the rest; or both come to one end, with
-- one text.
pub record AllGo {A : Type 0} (p : ProgParts) (V : A → Type 0) (rest : Plan Event) (v : A) (t : State Notes) (b : A) (w : Nodes) : Type 0 where
  pub same : v ≡ b
  pub value : V v
  pub ready : Ready p rest t w

pub record AllEnd (e : End) (t : State Notes) (f : End) (w : Nodes) : Type 0 where
  pub same : e ≡ f
  pub out : out_of w.stores ≡ t.out

abbrev pub AllAlong : {A : Type 0} → ProgParts → (A → Type 0) → (rest : Plan Event) → Step Notes A → StepIn Nodes A → Type 0
AllAlong p V rest (Gave v t) (Gave b w) = AllGo p V rest v t b w
AllAlong p V rest (Gave v t) (Ended f w) = ⊥
AllAlong p V rest (Ended e t) (Gave b w) = ⊥
AllAlong p V rest (Ended e t) (Ended f w) = AllEnd e t f w

-- all nodes in step follow along the plan, whatever comes behind
abbrev pub AllFollow : {A : Type 0} → ProgParts → (A → Type 0) → Plan Event → Run Notes A → RunIn Nodes A → Type 0
AllFollow p V plan f g = (rest : Plan Event) (s : State Notes) (w : Nodes) → Ready p (sequence plan rest) s w → AllAlong p V rest (f s) (g w)
