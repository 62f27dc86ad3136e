-- Laws of runs and of statements.
use Rattle.std.specs.Prelude.{◌≡◌, ◌≢◌, ◌≤◌, ◌<◌, ◌↔◌, ◌+◌, ◌*◌, ◌++◌, ◌+ℤ◌, pos, zero, suc, ℕ, ℤ, Some, Bool, true, false, List, [], length, IsTrue, slice_get, slice_set, take}
use Rattle.std.specs.List.{list_all, flat_map}
use Rattle.xmp_prog.specs.declared.parts.ProgParts.{ProgParts}
use Rattle.xmp_num.specs.declared.types.Ty.TheVariants.{Int}
use Rattle.xmp_num.specs.Arithmetic.{wrap}
use Rattle.xmp_prog.specs.declared.statements.LoopHead.{LoopHead}
use Rattle.xmp_prog.specs.declared.statements.LoopDirective.{LoopDirective}
use Rattle.xmp_prog.specs.declared.statements.Stmt.{Stmt}
use Rattle.xmp_meaning.specs.declared.ends.End.{End}
use Rattle.xmp_meaning.specs.declared.ends.End.TheVariants.{Trapped, OutOfSteps, PhaseEnd}
use Rattle.xmp_meaning.specs.declared.ends.Flow.{Flow}
use Rattle.xmp_meaning.specs.declared.ends.Flow.TheVariants.{Next}
use Rattle.xmp_meaning.specs.declared.outcome.Outcome.{Outcome}
use Rattle.xmp_meaning.specs.declared.outcome.Outcome.TheVariants as outcome
use Rattle.xmp_meaning.specs.Runs.{State, Step, Gave, Ended, RunIn, Run, ◌>>=◌, pure, set_scalar, state_of}
use Rattle.xmp_meaning.specs.Context.{Context}
use Rattle.xmp_prog.specs.Fits.{node_count}
use Rattle.xmp_meaning.specs.Blocks.{then_run, block, choose, turns}
use Rattle.xmp_map.specs.declared.array_map.ArrayMap.{ArrayMap}
use Rattle.xmp_map.specs.RowMajor.{product, row_major}
use Rattle.xmp_map.specs.Held as held
use Rattle.xmp_map.specs.Held.{IsCell, holds, slot}
use Rattle.xmp_prog.specs.declared.parts.Home.TheVariants as home
use Rattle.xmp_prog.specs.Statements.{writes_of}
use Rattle.xmp_meaning.specs.Declarations.{extents, home_of}
use Rattle.xmp_meaning.specs.Writes.{scalars_written}
use Rattle.xmp_meaning.specs.Layouts.{Whole, Packed, number_of}
use Rattle.xmp_meaning.specs.Handlers.{Handlers, erased}
use Rattle.xmp_meaning.specs.Expressions.{call, expr_of}
use Rattle.xmp_prog.specs.Formats.{Piece, spelling, is_piece}
use Rattle.xmp_meaning.specs.Formats.{pieces_of}
use Rattle.xmp_meaning.specs.Loops.{is_inside, inside, step_up, turn_count, turn, while_loop, nest}
use Rattle.xmp_meaning.specs.Statements.{stmt_of}
use Rattle.xmp_meaning.specs.Calls.{main_context}
use Rattle.xmp_meaning.specs.Programs.{beginning, program, outcome_of, serial}
use Rattle.xmp_meaning.specs.Exchanges.{Notes, no_notes, traced}
use Rattle.xmp_meaning.specs.Parts.{owns_iteration, part_of}
use Rattle.xmp_meaning.specs.Phases.{Memory, image_run, phases}
use Rattle.xmp_meaning.specs.Accesses.{noted_image_run}

-- one part, then two more, is two parts and then one more
abbrev pub IsAssociative : (S A B C : Type 0) → Type 0
IsAssociative S A B C = (p : RunIn S A) (f : A → RunIn S B) (g : B → RunIn S C) (s : S) → ((p >>= f) >>= g) s ≡ (p >>= (λ a. f a >>= g)) s

-- the same of statements
abbrev pub StatementsAssociate : (S : Type 0) → Type 0
StatementsAssociate S = (p q r : RunIn S Flow) (s : S) → then_run (then_run p q) r s ≡ then_run p (then_run q r) s

-- a block of two lists is the block of the one, and then that of the other
abbrev pub BlocksJoin : (S : Type 0) → Type 0
BlocksJoin S = (ps qs : List (RunIn S Flow)) (s : S) → block (ps ++ qs) s ≡ then_run (block ps) (block qs) s

-- a test that fails, fails again where it left the state
abbrev pub StaysFalse : (S : Type 0) → RunIn S Bool → Type 0
StaysFalse S test = (s t : S) → test s ≡ Gave false t → test t ≡ Gave false t

-- at most n + m turns are at most n turns, and then at most m
abbrev pub TurnsAdd : (S : Type 0) → Type 0
TurnsAdd S = (n m : ℕ) (test : RunIn S Bool) (body : RunIn S Flow) → StaysFalse S test
    → (s : S) → turns (n + m) test body s ≡ then_run (turns n test body) (turns m test body) s

-- nothing follows the end of a run
abbrev pub EndsAreFinal : (S A B : Type 0) → Type 0
EndsAreFinal S A B = (p : RunIn S A) (f : A → RunIn S B) (s t : S) (e : End) → p s ≡ Ended e t → (p >>= f) s ≡ Ended e t

-- what a run printed stays in front of what it prints
abbrev pub OutputGrows : {X A : Type 0} → Run X A → Type 0
OutputGrows {X} p = (s : State X) → (more : List ℕ) × ((state_of (p s)).out ≡ s.out ++ more)

-- a scalar is as it was
abbrev pub KeepsScalar : {X A : Type 0} → ℕ → Run X A → Type 0
KeepsScalar {X} slot p = (s : State X) → slice_get (state_of (p s)).scalars slot ≡ slice_get s.scalars slot

-- an array is as it was
abbrev pub KeepsArray : {X A : Type 0} → ℕ → Run X A → Type 0
KeepsArray {X} array p = (s : State X) → slice_get (state_of (p s)).arrays array ≡ slice_get s.arrays array

-- ---- the run that notes each exchange

-- the state, and a step, with another part in the place of what handlers alone read and write
abbrev pub with_extra : {X Y : Type 0} → (X → Y) → State X → State Y
with_extra f s = record { scalars = s.scalars; arrays = s.arrays; out = s.out; taken = s.taken; steps = s.steps; extra = f s.extra }

abbrev pub step_with : {X Y A : Type 0} → (X → Y) → Step X A → Step Y A
step_with f (Gave a s) = Gave a (with_extra f s)
step_with f (Ended e s) = Ended e (with_extra f s)

-- without it
abbrev pub bare : {X : Type 0} → State X → State (Unit {0})
bare s = with_extra (λ x. tt) s

abbrev pub bare_step : {X A : Type 0} → Step X A → Step (Unit {0}) A
bare_step step = step_with (λ x. tt) step

-- the run that notes each exchange goes as the serial run does, the notes apart
abbrev pub NotesApart : ProgParts → Context → Stmt → Type 0
NotesApart p cx s = (t : State Notes) → stmt_of erased cx s (bare t) ≡ bare_step (stmt_of (traced p) cx s t)

-- and comes to the serial outcome
abbrev pub TracedIsSerial : ProgParts → List ℕ → ℕ → Type 0
TracedIsSerial p input steps = outcome_of p (program (traced p) (main_context p 0 input) (beginning Whole p steps (no_notes p))) ≡ serial p input steps

-- ---- the part of a node

-- a node that owns the point of every iteration
abbrev pub OwnsAll : (X : Type 0) → ProgParts → LoopDirective → ℕ → Type 0
OwnsAll X p directive node = (s : State X) → owns_iteration p directive node s ≡ true

-- the part of node 0, where it owns every iteration, is the whole loop
abbrev pub PartIsWhole : (X : Type 0) → ProgParts → Handlers X → Context → LoopDirective → Run X Flow → Type 0
PartIsWhole X p h cx directive body = OwnsAll X p directive 0
    → (s : State X) → part_of p directive 0 (nest h cx directive.nest) body s ≡ nest h cx directive.nest body s

-- ---- more steps

-- the state with so many more steps left
abbrev pub richer : {X : Type 0} → ℕ → State X → State X
richer more s = record s { steps = s.steps + more }

-- with so many more steps left the same comes, where it wasn't for want of steps that it ended
abbrev pub SameWithMore : {X A : Type 0} → ℕ → Step X A → Step X A → Type 0
SameWithMore more (Gave a s) step = step ≡ Gave a (richer more s)
SameWithMore more (Ended (Trapped kind at) s) step = step ≡ Ended (Trapped kind at) (richer more s)
SameWithMore more (Ended OutOfSteps s) step = Unit {0}
SameWithMore more (Ended PhaseEnd s) step = step ≡ Ended PhaseEnd (richer more s)

-- the outcome is the same with more steps, where it isn't out of steps
abbrev pub SameOutcome : Outcome → Outcome → Type 0
SameOutcome (outcome.OutOfSteps out) other = Unit {0}
SameOutcome o other = other ≡ o

-- ---- an image's run

-- a coarray program of one image that comes to no `xmp_sync_all` means what its run with nothing at its directives means
abbrev pub OneImage : ProgParts → Type 0
OneImage p = node_count p ≡ 1 → ((t : State (List Memory)) → image_run p 0 [] ≢ Ended PhaseEnd t) → phases p ≡ serial p [] 0

-- the run that notes its accesses goes as an image's run does, the accesses apart
abbrev pub AccessesApart : ProgParts → Type 0
AccessesApart p = (image : ℕ) (starts : List Memory)
    → image_run p image starts ≡ step_with (λ a. a.starts) (noted_image_run p image starts)

-- ---- calls

-- a call changes the steps that are left, and nothing else
abbrev pub CallTakesSteps : (X : Type 0) → Context → Type 0
CallTakesSteps X cx = (function : ℕ) (vs : List ℤ) (s : State X) → (left : ℕ) × (state_of (call cx function vs s) ≡ record s { steps = left })

-- ---- uncounted loops

-- an uncounted loop is its test, and where that holds a turn, which takes a step, and the loop again
abbrev pub LoopUnrolls : (X : Type 0) → Run X Bool → Run X Flow → Type 0
LoopUnrolls X test body = (s : State X)
    → while_loop test body s ≡ (test >>= (λ more. choose more (then_run (turn body) (while_loop test body)) (pure Next))) s

-- ---- formats

-- the pieces of a format are those that it is spelled of
abbrev pub FormatsRead : Type 0
FormatsRead = (pieces : List Piece) → IsTrue (list_all is_piece pieces) → pieces_of (flat_map spelling pieces) ≡ pieces

-- ---- counted loops

-- the turns of a counted loop are those whose index, in whole numbers, is inside the bound
abbrev pub TurnsAreCounted : Type 0
TurnsAreCounted = (from to : ℤ) (inclusive : Bool) (step k : ℕ) → 1 ≤ step
    → (is_inside inclusive (from +ℤ pos (k * step)) to ≡ true) ↔ (k < turn_count from to inclusive step)

-- so many turns with no test: each has the index's next value
abbrev pub repeated : {X : Type 0} → LoopHead → ℕ → ℕ → ℤ → Run X Flow → Run X Flow
repeated head zero k from body = pure Next
repeated head (suc n) k from body = then_run body (do
  _ ← set_scalar head.index.number (from +ℤ pos (suc k * head.step))
  repeated head n (suc k) from body)

-- What makes a loop counted, of its runs from the states that fit: its bound is read off a state and is `to` there; a turn keeps to states that
-- fit, and leaves the index; so does another value of the index; and a step up from an index inside stays in the type.
pub record IsCounted (X : Type 0) (h : Handlers X) (cx : Context) (head : LoopHead) (body : Run X Flow) (fits : State X → Bool) (from to : ℤ) : Type 0 where
  pub steps_up : 1 ≤ head.step
  pub bound_is : (s : State X) → fits s ≡ true → expr_of h cx head.to s ≡ Gave to s
  pub turn_fits : (s t : State X) → fits s ≡ true → body s ≡ Gave Next t
      → (fits t ≡ true) × (slice_get t.scalars head.index.number ≡ slice_get s.scalars head.index.number)
  pub index_fits : (s : State X) (v : ℤ) → fits s ≡ true
      → (fits (record s { scalars = slice_set s.scalars head.index.number v }) ≡ true)
      × (slice_get (slice_set s.scalars head.index.number v) head.index.number ≡ Some v)
  pub step_fits : (k : ℕ) → k < turn_count from (wrap Int to) head.inclusive head.step
      → wrap Int ((from +ℤ pos (k * head.step)) +ℤ pos head.step) ≡ from +ℤ pos (suc k * head.step)

-- the turns of a counted loop are those that are counted when it begins: no test fails before, and the index goes up by the step each time
abbrev pub CountedTurns : (X : Type 0) → Type 0
CountedTurns X = (h : Handlers X) (cx : Context) (head : LoopHead) (body : Run X Flow) (fits : State X → Bool) (from to : ℤ) → IsCounted X h cx head body fits from to
    → (s : State X) → fits s ≡ true → slice_get s.scalars head.index.number ≡ Some from
    → let n = turn_count from (wrap Int to) head.inclusive head.step in
    turns n (inside h cx head) (then_run body (step_up head)) s ≡ repeated head n 0 from body s

-- ---- where cells lie

-- in a store of whole rows the number of an image's cell is the row-major one, behind the cells of the images before
abbrev pub WholeNumbers : ProgParts → Type 0
WholeNumbers p = (array image : ℕ) (xs : List ℕ) → length xs ≡ length (extents p array)
    → number_of Whole p array image xs ≡ pos (image * product (extents p array) + row_major (extents p array) xs)

-- in a node's store the number of a cell that it holds is the cell's slot
abbrev pub HeldNumbers : ProgParts → Type 0
HeldNumbers p = (array number node : ℕ) (m : ArrayMap) (cell : List ℕ) → home_of p array ≡ home.Spread number m
    → extents p array ≡ take m.dims (held.extents m) → IsCell m cell → holds m node cell ≡ true
    → number_of (Packed node) p array 0 (take m.dims cell) ≡ pos (slot m node cell)

-- ---- what a statement writes

-- the scalars that a statement writes are those by which the parts of a program are judged
abbrev pub WritesAreOne : Stmt → Type 0
WritesAreOne s = scalars_written s ≡ writes_of s
