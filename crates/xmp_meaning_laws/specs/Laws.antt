-- Laws of runs and of statements.
use Rattle.std.specs.Prelude.{◌≡◌, ◌≢◌, ◌≤◌, ◌+◌, ◌++◌, ◌&&◌, ◌||◌, not, is_none, ◌==◌, if◌then◌else◌, ℕ, zero, suc, ℤ, Option, Some, None, Result, Ok, Err, Bool, true, false, List, [], ◌∷◌, length, map, IsTrue, slice_get, ◌<◌, is_some, pos, unwrap_or}
use Rattle.std.specs.List.{AllByRecursion, list_all, flat_map}
use Rattle.xmp_prog.specs.declared.parts.ProgParts.{ProgParts}
use Rattle.xmp_prog.specs.declared.statements.Plain.{Plain}
use Rattle.xmp_prog.specs.declared.statements.Plain.TheVariants as plain
use Rattle.xmp_prog.specs.declared.statements.Stmt.{Stmt}
use Rattle.xmp_prog.specs.declared.statements.Stmt.TheOpen.{Stmt-F}
use Rattle.xmp_prog.specs.declared.expressions.Expr.TheOpen.{Expr-F}
use Rattle.xmp_prog.specs.declared.parts.Function.{Function}
use Rattle.xmp_prog.specs.Terms.{Term, Of, Element, type_of, terms_of, slots_of_terms}
use Rattle.xmp_prog.specs.Statements.{Statement, statements_of, writes_of, indices_of, slots_of_stmt, terms_of_stmt, terms_in, terms_of_plain, arrays_of_plain}
use Rattle.xmp_meaning.specs.declared.ends.End.TheVariants.{OutOfSteps}
use Rattle.xmp_num.specs.declared.types.Ty.{Ty}
use Rattle.xmp_num.specs.Arithmetic.{FitsType, binary_of, wrap}
use Rattle.xmp_num.specs.declared.types.TrapKind.{TrapKind}
use Rattle.xmp_prog.specs.declared.expressions.Expr.TheFolds.{fold-Expr}
use Rattle.xmp_prog.specs.declared.expressions.Expr.{Expr}
use Rattle.xmp_prog.specs.Tests.{constant_fits, operands_fit, choice_fits, counted_fits}
use Rattle.xmp_prog.specs.Directives.{nest_counted}
use Rattle.xmp_prog.specs.Fits.{node_count, PartsFit}
use Rattle.xmp_map.specs.declared.template.Template.{Template}
use Rattle.xmp_map.specs.RowMajor.{product, unravel}
use Rattle.xmp_dist.specs.declared.dimension.Dim.{Dim}
use Rattle.xmp_dist.specs.Owner.{owner_inside}
use Rattle.xmp_map.specs.Shadow.{has_shadow, holds_at}
use Rattle.xmp_map.specs.Spread.{owns_point}
use Rattle.xmp_meaning.specs.Cells.{read_in}
use Rattle.xmp_meaning.specs.Declarations.{scalar_type, array_type, is_coarray}
use Rattle.xmp_meaning.specs.Layouts.{Whole}
use Rattle.xmp_meaning.specs.Expressions.{expr_of}
use Rattle.xmp_meaning.specs.Programs.{program, beginning}
use Rattle.xmp_meaning.specs.Calls.{context, main_context}
use Rattle.xmp_meaning.specs.Runs.{State, Step, Gave, Ended, Run, state_of, ◌>>=◌, scalar, cell, set_cell}
use Rattle.xmp_meaning.specs.Context.{Context}
use Rattle.xmp_meaning.specs.Handlers.{Handlers, erased}
use Rattle.xmp_meaning.specs.Statements.{stmt_of}
use Rattle.xmp_meaning.specs.Writes.{plain_arrays}
use Rattle.xmp_meaning.specs.Laws.{with_extra, bare, KeepsScalar, IsCounted, repeated}
use Rattle.xmp_meaning.specs.Loops.{entering, nest}
use Rattle.xmp_meaning.specs.declared.ends.Flow.{Flow}
use Rattle.xmp_prog.specs.declared.statements.LoopHead.{LoopHead}
use Rattle.xmp_prog.specs.Counted.{is_counted, is_nest}
use Rattle.xmp_num.specs.declared.types.Ty.TheVariants.{Int}
use Rattle.std.specs.Ordering.{int_eq}

-- ---- the shape of a state

-- how many scalars there are, and how many cells each array has
pub record SameShape {X : Type 0} (s t : State X) : Type 0 where
  pub scalars : length t.scalars ≡ length s.scalars
  pub rows : map (λ row. length row) t.arrays ≡ map (λ row. length row) s.arrays

-- the shape is as it was
abbrev pub ShapeStays : {X A : Type 0} → Run X A → Type 0
ShapeStays p = (s : _) → SameShape s (state_of (p s))

-- ---- two runs side by side

-- two steps that give the same value or come to the same end, in states that are alike
abbrev pub Alike : {X Y A : Type 0} → (State X → State Y → Type 0) → Step X A → Step Y A → Type 0
Alike K (Gave a s) (Gave b t) = (a ≡ b) × K s t
Alike K (Gave a s) (Ended e t) = ⊥
Alike K (Ended e s) (Gave a t) = ⊥
Alike K (Ended e s) (Ended f t) = (e ≡ f) × K s t

-- ---- what a statement names

-- the arrays of the elements in a term
abbrev pub arrays_of_term : Term → List ℕ
arrays_of_term (Of e) = []
arrays_of_term (Element a) = a.array ∷ []

-- the arrays that a statement names, those in the statements in it apart
abbrev pub arrays_in : ProgParts → Statement → List ℕ
arrays_in p (Stmt-F.Plain s) = arrays_of_plain s ++ (plain_arrays s ++ flat_map arrays_of_term (terms_of_plain p s))
arrays_in p s = flat_map arrays_of_term (terms_in p s)

-- all arrays that a statement names
abbrev pub arrays_of_stmt : ProgParts → Stmt → List ℕ
arrays_of_stmt p s = flat_map (arrays_in p) (statements_of s)

-- ---- where no directive stands

-- whether a statement is neither a directive nor `xmp_sync_all`
abbrev pub is_plain : Plain → Bool
is_plain (plain.Sync status at) = false
is_plain (plain.Reflect arrays at) = false
is_plain (plain.Barrier at) = false
is_plain (plain.Cast variables from at) = false
is_plain (plain.Gmove target source at) = false
is_plain _ = true

abbrev pub is_no_directive : Statement → Bool
is_no_directive (Stmt-F.Plain s) = is_plain s
is_no_directive (Stmt-F.Loop directive writes) = false
is_no_directive (Stmt-F.Tasks sets at) = false
is_no_directive _ = true

-- handlers that read and write the cells of an array where they lie
pub record KeepsCells (X : Type 0) (h : Handlers X) (array : ℕ) : Type 0 where
  pub get : (at : ℤ) (s : State X) → h.get array at s ≡ cell array at s
  pub put : (at v : ℤ) (s : State X) → h.put array at v s ≡ set_cell array at v s

-- where no directive stands, a statement does with any handlers what it does with none, and leaves what handlers alone read and write
abbrev pub HandlersAreIdle : (X : Type 0) → Handlers X → Context → Stmt → Type 0
HandlersAreIdle X h cx s = IsTrue (list_all is_no_directive (statements_of s)) → AllByRecursion (KeepsCells X h) (arrays_of_stmt cx.program s)
    → (t : State X) → Alike (λ a b. a ≡ with_extra (λ x. t.extra) b) (stmt_of h cx s t) (stmt_of erased cx s (bare t))

-- ---- locality

-- states that have the same in the scalars and the arrays that pass, and in all that is no variable
pub record SameIn (X : Type 0) (slots arrays : ℕ → Bool) (s t : State X) : Type 0 where
  pub scalars : (slot : ℕ) → IsTrue (slots slot) → slice_get s.scalars slot ≡ slice_get t.scalars slot
  pub rows : (array : ℕ) → IsTrue (arrays array) → slice_get s.arrays array ≡ slice_get t.arrays array
  pub out : s.out ≡ t.out
  pub taken : s.taken ≡ t.taken
  pub steps : s.steps ≡ t.steps
  pub extra : s.extra ≡ t.extra

-- from states that have the same in what a statement names, it does the same, and they still have
abbrev pub IsLocal : (X : Type 0) → Context → Stmt → Type 0
IsLocal X cx s = (slots arrays : ℕ → Bool) → IsTrue (list_all slots (slots_of_stmt cx.program s)) → IsTrue (list_all arrays (arrays_of_stmt cx.program s))
    → (a b : State X) → SameIn X slots arrays a b → Alike (SameIn X slots arrays) (stmt_of erased cx s a) (stmt_of erased cx s b)

-- ---- the output

-- the state with more text in front of its output
abbrev pub behind : {X : Type 0} → List ℕ → State X → State X
behind text s = record s { out = text ++ s.out }

-- a run doesn't look at its output: behind other output it does the same
abbrev pub OutputUnseen : {X A : Type 0} → Run X A → Type 0
OutputUnseen p = (text : List ℕ) (s : _) → Alike (λ a b. b ≡ behind text a) (p s) (p (behind text s))

-- ---- steps

-- a step that takes no step of uncounted loops, and isn't out of steps
abbrev pub TakesNoStep : {X A : Type 0} → ℕ → Step X A → Type 0
TakesNoStep left (Gave a s) = s.steps ≡ left
TakesNoStep left (Ended e s) = (s.steps ≡ left) × (e ≢ OutOfSteps)

-- whether a statement isn't an uncounted loop
abbrev pub is_no_while : Statement → Bool
is_no_while (Stmt-F.While e writes at) = false
is_no_while _ = true

-- whether a term calls such functions alone that pass a test
abbrev pub calls_pass : (ℕ → Bool) → Term → Bool
calls_pass test (Of (Expr-F.Call function arguments at)) = test function
calls_pass test _ = true

-- whether a statement has no uncounted loop, and calls functions alone that pass a test
abbrev pub has_no_while : ProgParts → (ℕ → Bool) → Stmt → Bool
has_no_while p test s = list_all is_no_while (statements_of s) && list_all (calls_pass test) (terms_of_stmt p s)

abbrev pub function_has_none : ProgParts → (ℕ → Bool) → Option Function → Bool
function_has_none p test None = true
function_has_none p test (Some f) = has_no_while p test f.body

-- whether function `k`, one of the first `n`, has no uncounted loop, nor has one that it calls; a function calls those before it alone
abbrev pub is_without : ProgParts → ℕ → ℕ → Bool
is_without p zero k = true
is_without p (suc n) k = if k == n then function_has_none p (is_without p n) (slice_get p.functions n) else is_without p n k

-- without an uncounted loop, calls included, no step is taken, and a run isn't out of steps
abbrev pub StepsStay : (X : Type 0) → ProgParts → ℕ → List ℕ → ℕ → Stmt → Type 0
StepsStay X p node input n s = IsTrue (has_no_while p (is_without p n) s)
    → (t : State X) → TakesNoStep t.steps (stmt_of erased (context p node input n) s t)

-- ---- the input

-- whether a statement isn't `scanf`, and whether it isn't `printf`
abbrev pub is_no_scan : Statement → Bool
is_no_scan (Stmt-F.Plain (plain.Scan to at)) = false
is_no_scan _ = true

abbrev pub is_no_print : Statement → Bool
is_no_print (Stmt-F.Plain (plain.Print format arguments at)) = false
is_no_print _ = true

-- without `scanf` nothing of the input is read, and without `printf` nothing is written
abbrev pub InputStays : (X : Type 0) → Context → Stmt → Type 0
InputStays X cx s = IsTrue (list_all is_no_scan (statements_of s)) → (t : State X) → (state_of (stmt_of erased cx s t)).taken ≡ t.taken

abbrev pub OutputStays : (X : Type 0) → Context → Stmt → Type 0
OutputStays X cx s = IsTrue (list_all is_no_print (statements_of s)) → (t : State X) → (state_of (stmt_of erased cx s t)).out ≡ t.out

-- ---- types

-- each value that is read lies in its type: of a scalar, and of a cell
pub record ValuesLie (X : Type 0) (p : ProgParts) (s : State X) : Type 0 where
  pub scalars : (slot : ℕ) → FitsType (scalar_type p slot) (unwrap_or (slice_get s.scalars slot) (pos 0))
  pub cells : (array : ℕ) (at : ℤ) → FitsType (array_type p array) (read_in s.arrays array at)

-- the terms have types that fit each other
pub record TermsFit (terms : List Term) : Type 0 where
  pub constants : IsTrue (list_all constant_fits terms)
  pub operands : IsTrue (list_all operands_fit terms)
  pub choices : IsTrue (list_all choice_fits terms)

-- and the loops are counted by an int
pub record TypesFit (p : ProgParts) (s : Stmt) : Type 0 where
  pub terms : TermsFit (terms_of_stmt p s)
  pub counted : IsTrue (list_all (counted_fits p) (statements_of s))
  pub nests : IsTrue (list_all (nest_counted p) (statements_of s))

-- the value that a step gives lies in a type
abbrev pub GivesA : {X : Type 0} → Ty → Step X ℤ → Type 0
GivesA ty (Gave v s) = FitsType ty v
GivesA ty (Ended e s) = Unit {0}

-- an expression gives a value of its type, and all values still lie in theirs
abbrev pub ExpressionsLie : (X : Type 0) → ProgParts → ℕ → List ℕ → ℕ → Expr → Type 0
ExpressionsLie X p node input n e = node < node_count p → TermsFit (terms_of p e) → (s : State X) → ValuesLie X p s
    → GivesA (type_of p e) (expr_of erased (context p node input n) e s) × ValuesLie X p (state_of (expr_of erased (context p node input n) e s))

-- after a statement all values lie in their types, where they did before
abbrev pub StatementsLie : (X : Type 0) → ProgParts → ℕ → List ℕ → ℕ → Stmt → Type 0
StatementsLie X p node input n s = node < node_count p → TypesFit p s → (t : State X) → ValuesLie X p t
    → ValuesLie X p (state_of (stmt_of erased (context p node input n) s t))

-- and so they do where a program ends whose parts fit
abbrev pub ProgramsLie : (X : Type 0) → ProgParts → ℕ → List ℕ → ℕ → Type 0
ProgramsLie X p node input steps = node < node_count p → PartsFit p → (extra : X)
    → ValuesLie X p (state_of (program erased (main_context p node input) (beginning Whole p steps extra)))

-- ---- the node's number

-- whether a term asks neither for the node's number nor for its own cell of a coarray, and calls functions alone that pass a test
abbrev pub asks_nothing : ProgParts → (ℕ → Bool) → Term → Bool
asks_nothing p test (Of Expr-F.Node) = false
asks_nothing p test (Of e) = calls_pass test (Of e)
asks_nothing p test (Element a) = not (is_none a.image) || not (is_coarray p a.array)

abbrev pub function_asks_nothing : ProgParts → (ℕ → Bool) → Option Function → Bool
function_asks_nothing p test None = true
function_asks_nothing p test (Some f) = list_all (asks_nothing p test) (terms_of_stmt p f.body)

-- whether function `k`, one of the first `n`, doesn't ask for it, nor does one that it calls
abbrev pub is_unasking : ProgParts → ℕ → ℕ → Bool
is_unasking p zero k = true
is_unasking p (suc n) k = if k == n then function_asks_nothing p (is_unasking p n) (slice_get p.functions n) else is_unasking p n k

-- where nothing asks for it, the node's number is of no account
abbrev pub NodeUnasked : (X : Type 0) → ProgParts → (node other : ℕ) → List ℕ → ℕ → Stmt → Type 0
NodeUnasked X p node other input n s = IsTrue (list_all (asks_nothing p (is_unasking p n)) (terms_of_stmt p s))
    → (t : State X) → stmt_of erased (context p node input n) s t ≡ stmt_of erased (context p other input n) s t

-- ---- the bounds of counted loops

-- the value that an operator gives; 0 where it traps
abbrev pub value_or_zero : Result ℤ TrapKind → ℤ
value_or_zero (Ok v) = v
value_or_zero (Err kind) = pos 0

-- the value of a bound, by the values of the scalars; 0 for what stands in no bound
abbrev pub bound_step : (ℕ → ℤ) → Expr-F ℤ (Unit {0}) → ℤ
bound_step read (Expr-F.Const v ty) = v
bound_step read (Expr-F.Scalar slot at) = read slot
bound_step read (Expr-F.Binary op ty a b at) = value_or_zero (binary_of op ty a b)
bound_step read (Expr-F.Convert ty a) = wrap ty a
bound_step read _ = pos 0

abbrev pub bound_value : (ℕ → ℤ) → Expr → ℤ
bound_value read = fold-Expr ℤ (Unit {0}) (bound_step read) (λ a. tt)

-- the value of a scalar in a state; 0 where there is none
abbrev pub scalar_in : {X : Type 0} → State X → ℕ → ℤ
scalar_in s slot = unwrap_or (slice_get s.scalars slot) (pos 0)

-- whether a state has a loop's index, and in the scalars of its bound what another has
abbrev pub keeps_bound : {X : Type 0} → ProgParts → LoopHead → State X → State X → Bool
keeps_bound p head s t =
    is_some (slice_get t.scalars head.index.number) && list_all (λ n. int_eq (scalar_in t n) (scalar_in s n)) (slots_of_terms (terms_of p head.to))

-- a loop that a program's parts take for counted is counted, where its body leaves its index and the scalars of its bound
abbrev pub LoopsAreCounted : (X : Type 0) → Handlers X → Context → LoopHead → Run X Flow → Type 0
LoopsAreCounted X h cx head body = (writes : List ℕ) → IsTrue (is_counted cx.program head writes) → IsTrue (list_all constant_fits (terms_of cx.program head.to))
    → AllByRecursion (λ slot. KeepsScalar {X = X} slot body) (head.index.number ∷ slots_of_terms (terms_of cx.program head.to))
    → (s : State X) (from : ℤ) → FitsType Int from
    → IsCounted X h cx head body (keeps_bound cx.program head s) from (bound_value (scalar_in s) head.to)

-- a counted loop by its count: the entry, and then so many turns, with no test, the index going up by the step each time
abbrev pub by_count : {X : Type 0} → Handlers X → Context → LoopHead → Run X Flow → Run X Flow
by_count h cx head body = do
  n ← entering h cx head
  from ← scalar head.index.number
  repeated head n 0 from body

-- a nest so, the outermost loop first
abbrev pub nest_by_count : {X : Type 0} → Handlers X → Context → List LoopHead → Run X Flow → Run X Flow
nest_by_count h cx [] body = body
nest_by_count h cx (head ∷ heads) body = by_count h cx head (nest_by_count h cx heads body)

-- a nest that a program's parts take for counted makes its turns by their count, where its indices are there
abbrev pub NestsAreCounted : (X : Type 0) → Context → List LoopHead → Stmt → Type 0
NestsAreCounted X cx heads body = IsTrue (is_nest cx.program heads (writes_of body))
    → IsTrue (list_all constant_fits (flat_map (λ head. terms_of cx.program head.to) heads))
    → (s : State X) → AllByRecursion (λ i. IsTrue (is_some (slice_get s.scalars i))) (indices_of heads)
    → nest erased cx heads (stmt_of erased cx body) s ≡ nest_by_count erased cx heads (stmt_of erased cx body) s

-- ---- the owner of a point

-- a node below the count that owns a point of a template, and alone does
pub record OneOwner (t : Template) (point : List ℤ) : Type 0 where
  pub node : ℕ
  pub below : node < product t.grid.sizes
  pub owns : IsTrue (owns_point (unravel t.grid.sizes node) t.spread point)
  pub only : (other : ℕ) → other < product t.grid.sizes → IsTrue (owns_point (unravel t.grid.sizes other) t.spread point) → other ≡ node

-- each point of a template, one outside it too, has one owner
abbrev pub PointsHaveOwners : Template → Type 0
PointsHaveOwners t = (point : List ℤ) → length point ≡ t.dims → OneOwner t point

-- ---- shadows

-- a node that owns a position of a dimension holds each position within the shadow's widths of it; without a shadow the widths are 0
abbrev pub ShadowIsHeld : Dim → Type 0
ShadowIsHeld d = (node low high x y : ℕ) → x < d.size → owner_inside d x ≡ node → x ≤ y + low → y ≤ x + high
    → (has_shadow d.dist ≡ false → (low ≡ 0) × (high ≡ 0)) → IsTrue (holds_at d node low high y)
