-- Statements keep every such relation.
use Rattle.std.proofs.Common.{◌≡◌, ◌++◌, ◌+ℤ◌, ℕ, ℤ, pos, Bool, true, false, List, [], ◌∷◌, map, length, Option, Some, None, refl, sym, subst}
use Rattle.std.specs.List.{AllByRecursion, concat}
use Rattle.xmp_base.specs.declared.place.Place.{Place}
use Rattle.xmp_num.specs.declared.types.TrapKind.TheVariants.{Section}
use Rattle.xmp_num.specs.declared.types.Ty.TheVariants.{Int}
use Rattle.xmp_num.specs.Arithmetic.{binary_of, wrap}
use Rattle.xmp_num.specs.Decimal.{scan_of}
use Rattle.xmp_prog.specs.declared.parts.Start.{Start}
use Rattle.xmp_prog.specs.declared.expressions.Expr.{Expr}
use Rattle.xmp_prog.specs.declared.statements.Compound.{Compound}
use Rattle.xmp_prog.specs.declared.statements.LoopHead.{LoopHead}
use Rattle.xmp_prog.specs.declared.statements.Part.{Part}
use Rattle.xmp_prog.specs.declared.statements.Part.TheVariants as part
use Rattle.xmp_prog.specs.declared.statements.MoveSide.{MoveSide}
use Rattle.xmp_prog.specs.declared.statements.MoveSide.TheVariants as side
use Rattle.xmp_prog.specs.declared.statements.Target.{Target}
use Rattle.xmp_prog.specs.declared.statements.Target.TheVariants as target
use Rattle.xmp_prog.specs.declared.statements.Plain.{Plain}
use Rattle.xmp_prog.specs.declared.statements.Plain.TheVariants as plain
use Rattle.xmp_prog.specs.declared.statements.Stmt.{Stmt, map-Stmt}
use Rattle.xmp_prog.specs.declared.statements.Task.{Task, map-Task}
use Rattle.xmp_prog.specs.declared.statements.Stmt.TheOpen.{Stmt-F, Task-F}
use Rattle.xmp_prog.specs.declared.statements.Stmt.TheFolds.{ind-Stmt, fold-Stmt, fold-Task, fold-roll-Stmt, fold-roll-Task}
use Rattle.xmp_prog.specs.declared.statements.Stmt.TheViews.{roll-Stmt, roll-Task}
use Rattle.xmp_meaning.specs.declared.location.Location.{Location}
use Rattle.xmp_meaning.specs.declared.location.Location.TheVariants as location
use Rattle.xmp_meaning.specs.declared.ends.Flow.{Flow}
use Rattle.xmp_meaning.specs.declared.ends.Flow.TheVariants.{Next, Returned}
use Rattle.xmp_meaning.specs.Runs.{State, Run, ◌>>=◌, pure}
use Rattle.xmp_meaning.specs.Declarations.{extents, scalar_type, array_type}
use Rattle.xmp_meaning.specs.Blocks.{then_run, block}
use Rattle.xmp_meaning.specs.Context.{Context}
use Rattle.xmp_meaning.specs.Handlers.{Handlers, TaskRun, Aim}
use Rattle.xmp_meaning.specs.Expressions.{expr_of, natural, within}
use Rattle.xmp_meaning.specs.Formats.{printed}
use Rattle.xmp_meaning.specs.Assignments.{location_type, value_at, store, at_target, new_value, assign, initialise, store_read, scan}
use Rattle.xmp_meaning.specs.Loops.{inside, is_inside, step_up, turn_count, entering, counted, nest}
use Rattle.xmp_meaning.specs.Sections.{Chosen, One, Many, chosen, numbers, in_range, progression, section, subscripts, all_subscripts, cells_from, cells, cell_at, lengths, fit, name_of, lengths_fit, spread, aim, read_cell, store_all}
use Rattle.xmp_meaning.specs.Statements.{plain_of, stmt_step, task_step, stmt_of}
use Rattle.xmp_prog.specs.Statements.{indices_of, slots_of_target, slots_of_side, arrays_of_side, plain_writes}
use Rattle.xmp_meaning.specs.Writes.{target_arrays, plain_arrays, scalars_step, arrays_step, written_in_task, scalars_written, arrays_written}
use Rattle.xmp_meaning.specs.Programs.{starts, program}
use Rattle.xmp_meaning.proofs.Keeps.{Keeps, KeepsHandlers, TasksAlike, AllAlike, joins, each_kept, then_kept, choose_kept, turns_kept, keeps-or_trap}
use Rattle.xmp_meaning.proofs.RelatedExpressions.{keeps-expr, keeps-cell_of, keeps-holds, keeps-subscript}

-- a location that may be written
abbrev MayWrite : (S T : ℕ → Type 0) → Location → Type 0
MayWrite S T (location.Scalar slot) = S slot
MayWrite S T (location.Cell array at) = T array

pub all_of_both : (P : ℕ → Type 0) (xs ys : List ℕ) → AllByRecursion P (xs ++ ys) → AllByRecursion P xs × AllByRecursion P ys
all_of_both P [] ys h = (tt, h)
all_of_both P (x ∷ xs) ys h = let rest : _ = all_of_both P xs ys h.1 in ((h.0, rest.0), rest.1)

abbrev task_scalars : Task → List ℕ
task_scalars = fold-Task (List ℕ) (List ℕ) scalars_step written_in_task

abbrev task_arrays : Task → List ℕ
task_arrays = fold-Task (List ℕ) (List ℕ) arrays_step written_in_task

module _ {X Y : Type 0} {S T : ℕ → Type 0} {R : (A : Type 0) → Run X A → Run Y A → Type 0} (cx : Context) (k : Keeps X Y cx S T R)
    {h : Handlers X} {h' : Handlers Y} (kh : KeepsHandlers X Y T R h h') where
  -- ---- one after the other, and loops
  pub keeps-then : {p q : Run X Flow} {p' q' : Run Y Flow} → R Flow p p' → R Flow q q' → R Flow (then_run p q) (then_run p' q')
  keeps-then r t = then_kept (joins k) r t

  -- ---- assignments
  keeps-value_at : (l : Location) → R ℤ (value_at h l) (value_at h' l)
  keeps-value_at (location.Scalar slot) = k.scalars slot
  keeps-value_at (location.Cell array at) = kh.get array at

  keeps-store : (l : Location) → MayWrite S T l → (v : ℤ) → R (Unit {0}) (store h cx l v) (store h' cx l v)
  keeps-store (location.Scalar slot) may v = k.sets_scalar slot may (wrap (scalar_type cx.program slot) v)
  keeps-store (location.Cell array at) may v = kh.put array may at (wrap (array_type cx.program array) v)

  keeps-at_target : {A : Type 0} {f : Location → Run X A} {g : Location → Run Y A} (to : Target) → AllByRecursion S (slots_of_target to) → AllByRecursion T (target_arrays to)
      → ((l : Location) → MayWrite S T l → R A (f l) (g l)) → R A (at_target h cx to f) (at_target h' cx to g)
  keeps-at_target (target.Scalar slot at) may rows h = h (location.Scalar slot) may.0
  keeps-at_target (target.Cell a) slots may h = k.goes_on (keeps-cell_of cx k kh a) (λ n. h (location.Cell a.array n) may.0)

  keeps-new_value : (l : Location) (c : Option Compound) (e : Expr) → R ℤ (new_value h cx l c e) (new_value h' cx l c e)
  keeps-new_value l None e = keeps-expr cx k kh e
  keeps-new_value l (Some c) e = k.goes_on (keeps-value_at l) (λ old. k.goes_on (keeps-expr cx k kh e)
      (λ v. keeps-or_trap k (binary_of c.op c.ty old v) c.at))

  keeps-next : {A : Type 0} {p : Run X A} {p' : Run Y A} → R A p p' → R Flow (p >>= (λ a. pure Next)) (p' >>= (λ a. pure Next))
  keeps-next r = k.goes_on r (λ a. k.gives Next)

  keeps-assign : (c : Option Compound) (e : Expr) (l : Location) → MayWrite S T l → R Flow (assign h cx c e l) (assign h' cx c e l)
  keeps-assign c e l may = k.goes_on (keeps-new_value l c e) (λ v. keeps-next (keeps-store l may v))

  keeps-initialise : (slot : ℕ) → S slot → (e : Option Expr) → R Flow (initialise h cx slot e) (initialise h' cx slot e)
  keeps-initialise slot may None = k.gives Next
  keeps-initialise slot may (Some e) = k.goes_on (keeps-expr cx k kh e) (λ v. keeps-next (keeps-store (location.Scalar slot) may v))

  keeps-store_read : (l : Location) → MayWrite S T l → (v : Option ℤ) → R Flow (store_read h cx l v) (store_read h' cx l v)
  keeps-store_read l may None = k.gives Next
  keeps-store_read l may (Some v) = keeps-next (keeps-store l may v)

  keeps-scan : (l : Location) → MayWrite S T l → R Flow (scan h cx l) (scan h' cx l)
  keeps-scan l may = k.goes_on k.inputs (λ at.
      k.goes_on (k.sets_taken (scan_of (location_type cx.program l) cx.input at).1)
      (λ u. keeps-store_read l may (scan_of (location_type cx.program l) cx.input at).0))

  -- ---- loops
  keeps-inside : (head : LoopHead) → R Bool (inside h cx head) (inside h' cx head)
  keeps-inside head = k.goes_on (k.scalars head.index.number) (λ i. k.goes_on (keeps-expr cx k kh head.to)
      (λ to. k.gives (is_inside head.inclusive i (wrap Int to))))

  keeps-step_up : (head : LoopHead) → S head.index.number → R Flow (step_up head) (step_up head)
  keeps-step_up head may = k.goes_on (k.scalars head.index.number)
      (λ i. keeps-next (k.sets_scalar head.index.number may (wrap Int (i +ℤ pos head.step))))

  keeps-entering : (head : LoopHead) → S head.index.number → R ℕ (entering h cx head) (entering h' cx head)
  keeps-entering head may = k.goes_on (keeps-expr cx k kh head.from) (λ from. k.goes_on (k.sets_scalar head.index.number may (wrap Int from))
      (λ u. k.goes_on (keeps-expr cx k kh head.to)
      (λ to. k.gives (turn_count (wrap Int from) (wrap Int to) head.inclusive head.step))))

  pub keeps-counted : {body : Run X Flow} {body' : Run Y Flow} (head : LoopHead) → S head.index.number → R Flow body body'
      → R Flow (counted h cx head body) (counted h' cx head body')
  keeps-counted head may r = k.goes_on (keeps-entering head may)
      (λ n. turns_kept (joins k) n (keeps-inside head) (keeps-then r (keeps-step_up head may)))

  pub keeps-nest : {body : Run X Flow} {body' : Run Y Flow} (heads : List LoopHead) → AllByRecursion S (indices_of heads) → R Flow body body'
      → R Flow (nest h cx heads body) (nest h' cx heads body')
  keeps-nest [] may r = r
  keeps-nest (head ∷ heads) may r = keeps-counted head may.0 (keeps-nest heads may.1 r)

  -- ---- sections
  keeps-chosen : (q : Part) → R Chosen (chosen h cx q) (chosen h' cx q)
  keeps-chosen (part.One n) = k.goes_on (keeps-expr cx k kh n.value) (λ v. k.gives (One v))
  keeps-chosen (part.Many b n s) = k.goes_on (keeps-expr cx k kh b.value) (λ base. k.goes_on (keeps-expr cx k kh n.value)
      (λ length. k.goes_on (keeps-expr cx k kh s.value) (λ step. k.gives (Many base length step))))

  keeps-numbers : (s : MoveSide) → R (List Chosen) (numbers h cx s) (numbers h' cx s)
  keeps-numbers (side.Scalar name) = k.gives []
  keeps-numbers (side.Array name parts) = each_kept (joins k) (chosen h cx) (chosen h' cx) keeps-chosen parts []

  keeps-section : (b : Bool) (at : Place) (xs : List ℕ) → R (List ℕ) (section b at xs) (section b at xs)
  keeps-section true at xs = k.gives xs
  keeps-section false at xs = k.traps Section at

  keeps-subscripts : (at : Place) (n : ℕ) (c : Chosen) → R (List ℕ) (subscripts at n c) (subscripts at n c)
  keeps-subscripts at n (One v) = k.goes_on (keeps-subscript cx k kh (within v n) at) (λ x. k.gives (x ∷ []))
  keeps-subscripts at n (Many base length step) =
      keeps-section (in_range n base length step) at (progression (natural base) (natural step) (natural length))

  keeps-all_subscripts : (at : Place) (ns : List ℕ) (cs : List Chosen) → R (List (List ℕ)) (all_subscripts at ns cs) (all_subscripts at ns cs)
  keeps-all_subscripts at (n ∷ ns) (c ∷ cs) = k.goes_on (keeps-subscripts at n c)
      (λ xs. k.goes_on (keeps-all_subscripts at ns cs) (λ rest. k.gives (xs ∷ rest)))
  keeps-all_subscripts at [] cs = k.gives []
  keeps-all_subscripts at (n ∷ ns) [] = k.gives []

  keeps-cells : (s : MoveSide) (cs : List Chosen) → R (List ℕ) (cells cx s cs) (cells cx s cs)
  keeps-cells (side.Scalar name) cs = k.gives (0 ∷ [])
  keeps-cells (side.Array name parts) cs = k.goes_on (keeps-all_subscripts name.at (extents cx.program name.number) cs)
      (λ xs. k.gives (cells_from 0 (extents cx.program name.number) xs))

  keeps-lengths_fit : (b : Bool) (at : Place) → R (Unit {0}) (lengths_fit b at) (lengths_fit b at)
  keeps-lengths_fit true at = k.gives tt
  keeps-lengths_fit false at = k.traps Section at

  keeps-aim : (to from : MoveSide) → R Aim (aim h cx to from) (aim h' cx to from)
  keeps-aim to from = k.goes_on (keeps-numbers to) (λ t. k.goes_on (keeps-numbers from) (λ f.
      k.goes_on (keeps-cells to t) (λ targets. k.goes_on (keeps-cells from f) (λ sources.
      k.goes_on (keeps-lengths_fit (fit (lengths t) (lengths f)) (name_of to).at)
      (λ u. k.gives (record { targets = targets; sources = spread (lengths f) (length targets) sources }))))))

  may_write_side : (s : MoveSide) → AllByRecursion S (slots_of_side s) → AllByRecursion T (arrays_of_side s) → (n : ℕ) → MayWrite S T (cell_at s n)
  may_write_side (side.Scalar name) may rows n = may.0
  may_write_side (side.Array name parts) slots may n = may.0

  keeps-store_all : (s : MoveSide) → ((n : ℕ) → MayWrite S T (cell_at s n)) → (ns : List ℕ) (vs : List ℤ) → R Flow (store_all h cx s ns vs) (store_all h' cx s ns vs)
  keeps-store_all s may (n ∷ ns) (v ∷ vs) = k.goes_on (keeps-store (cell_at s n) (may n) v) (λ u. keeps-store_all s may ns vs)
  keeps-store_all s may [] vs = k.gives Next
  keeps-store_all s may (n ∷ ns) [] = k.gives Next

  pub keeps-starts : (ss : List Start) → AllByRecursion S (map (λ s. s.slot) ss) → R Flow (starts h cx ss) (starts h' cx ss)
  keeps-starts [] may = k.gives Next
  keeps-starts (s ∷ ss) may = k.goes_on (keeps-expr cx k kh s.value) (λ v. k.goes_on (keeps-store (location.Scalar s.slot) may.0 v) (λ u. keeps-starts ss may.1))

  -- ---- statements
  keeps-plain : (q : Plain) → AllByRecursion S (plain_writes q) → AllByRecursion T (plain_arrays q) → R Flow (plain_of h cx q) (plain_of h' cx q)
  keeps-plain (plain.Declare slot value at) may rows = k.goes_on (k.sets_scalar slot may.0 (pos 0)) (λ u. keeps-initialise slot may.0 value)
  keeps-plain (plain.Set to c value) may rows = keeps-at_target to may rows (keeps-assign c value)
  keeps-plain (plain.Return value) may rows = k.goes_on (keeps-expr cx k kh value) (λ v. k.gives (Returned v))
  keeps-plain (plain.Call function arguments at) may rows =
      k.goes_on (each_kept (joins k) (expr_of h cx) (expr_of h' cx) (keeps-expr cx k kh) arguments []) (λ vs. keeps-next (k.calls function vs))
  keeps-plain (plain.Print format arguments at) may rows =
      k.goes_on (each_kept (joins k) (expr_of h cx) (expr_of h' cx) (keeps-expr cx k kh) arguments []) (λ vs. keeps-next (k.writes (printed format vs)))
  keeps-plain (plain.Scan to at) may rows = keeps-at_target to may rows keeps-scan
  keeps-plain (plain.Sync status at) may rows = keeps-then kh.sync (keeps-next (k.sets_scalar status.number may.0 (pos 0)))
  keeps-plain (plain.Reflect arrays at) may rows = kh.reflect arrays
  keeps-plain (plain.Barrier at) may rows = kh.barrier
  keeps-plain (plain.Cast variables from at) may rows = kh.bcast variables from
  keeps-plain (plain.Gmove to from at) may rows = kh.gmove to from (aim h cx to from) (aim h' cx to from) (read_cell h from) (read_cell h' from)
      (store_all h cx to) (store_all h' cx to) (keeps-aim to from) (λ n. keeps-value_at (cell_at from n)) (keeps-store_all to (may_write_side to may rows))

  abbrev task_of : {Z : Type 0} → Handlers Z → Task → TaskRun Z
  task_of {Z} f = fold-Task (Run Z Flow) (TaskRun Z) (stmt_step f cx) task_step

  abbrev StmtKept : Stmt → Type 0
  StmtKept s = AllByRecursion S (scalars_written s) → AllByRecursion T (arrays_written s) → R Flow (stmt_of h cx s) (stmt_of h' cx s)

  abbrev TaskKept : Task → Type 0
  TaskKept t = AllByRecursion S (task_scalars t) → AllByRecursion T (task_arrays t) → TasksAlike (State X) (State Y) R (task_of h t) (task_of h' t)

  abbrev scalars_in : {C D : Type 0} → (C → Stmt) → (D → Task) → Stmt-F C D → List ℕ
  scalars_in {C} {D} p q y = scalars_step (map-Stmt Stmt Task (List ℕ) (List ℕ) scalars_written task_scalars (map-Stmt C D Stmt Task p q y))

  abbrev arrays_in : {C D : Type 0} → (C → Stmt) → (D → Task) → Stmt-F C D → List ℕ
  arrays_in {C} {D} p q y = arrays_step (map-Stmt Stmt Task (List ℕ) (List ℕ) arrays_written task_arrays (map-Stmt C D Stmt Task p q y))

  module _ {C D : Type 0} (p : C → Stmt) (q : D → Task) (j : (c : C) → StmtKept (p c)) (i : (c : D) → TaskKept (q c)) where
    abbrev of_stmt : {Z : Type 0} → Handlers Z → Stmt-F C D → Run Z Flow
    of_stmt {Z} f y = stmt_step f cx (map-Stmt Stmt Task (Run Z Flow) (TaskRun Z) (stmt_of f cx) (task_of f) (map-Stmt C D Stmt Task p q y))

    keeps-block : (cs : List C) → AllByRecursion S (concat (map scalars_written (map p cs))) → AllByRecursion T (concat (map arrays_written (map p cs)))
        → R Flow (block (map (stmt_of h cx) (map p cs))) (block (map (stmt_of h' cx) (map p cs)))
    keeps-block [] may rows = k.gives Next
    keeps-block (c ∷ cs) may rows =
        let m : _ = all_of_both S (scalars_written (p c)) (concat (map scalars_written (map p cs))) may in
        let r : _ = all_of_both T (arrays_written (p c)) (concat (map arrays_written (map p cs))) rows in
        keeps-then (j c m.0 r.0) (keeps-block cs m.1 r.1)

    all_alike : (cs : List D) → AllByRecursion S (concat (map task_scalars (map q cs))) → AllByRecursion T (concat (map task_arrays (map q cs)))
        → AllAlike (State X) (State Y) R (map (task_of h) (map q cs)) (map (task_of h') (map q cs))
    all_alike [] may rows = tt
    all_alike (c ∷ cs) may rows =
        let m : _ = all_of_both S (task_scalars (q c)) (concat (map task_scalars (map q cs))) may in
        let r : _ = all_of_both T (task_arrays (q c)) (concat (map task_arrays (map q cs))) rows in
        (i c m.0 r.0, all_alike cs m.1 r.1)

    keeps-stmt_step : (y : Stmt-F C D) → AllByRecursion S (scalars_in p q y) → AllByRecursion T (arrays_in p q y) → R Flow (of_stmt h y) (of_stmt h' y)
    keeps-stmt_step (Stmt-F.Plain s) may rows = keeps-plain s may rows
    keeps-stmt_step (Stmt-F.Block all) may rows = keeps-block all may rows
    keeps-stmt_step (Stmt-F.If test a b) may rows =
        let m : _ = all_of_both S (scalars_written (p a)) (scalars_written (p b)) may in
        let r : _ = all_of_both T (arrays_written (p a)) (arrays_written (p b)) rows in
        k.goes_on (keeps-holds cx k kh test) (λ v. choose_kept (joins k) v (j a m.0 r.0) (j b m.1 r.1))
    keeps-stmt_step (Stmt-F.While test body at) may rows = k.loops (keeps-holds cx k kh test) (j body may rows)
    keeps-stmt_step (Stmt-F.Counted head body) may rows = keeps-counted head may.0 (j body may.1 rows)
    keeps-stmt_step (Stmt-F.Loop directive body) may rows =
        let m : _ = all_of_both S (indices_of directive.nest) (scalars_written (p body)) may in
        kh.loop directive (nest h cx directive.nest) (nest h' cx directive.nest)
        (stmt_of h cx (p body)) (stmt_of h' cx (p body)) (λ b b' r. keeps-nest directive.nest m.0 r) (j body m.1 rows)
    keeps-stmt_step (Stmt-F.Tasks all at) may rows =
        kh.tasks (map (task_of h) (map q all)) (map (task_of h') (map q all)) (all_alike all may rows)

    keeps-task_step : (y : Task-F C D) → AllByRecursion S (scalars_written (p y.body)) → AllByRecursion T (arrays_written (p y.body)) → TasksAlike (State X) (State Y) R
        (task_step (map-Task Stmt Task (Run X Flow) (TaskRun X) (stmt_of h cx) (task_of h) (map-Task C D Stmt Task p q y)))
        (task_step (map-Task Stmt Task (Run Y Flow) (TaskRun Y) (stmt_of h' cx) (task_of h') (map-Task C D Stmt Task p q y)))
    keeps-task_step y may rows = record { nodes = refl; at = refl; runs = j y.body may rows }

  stmt_rolled : {Z : Type 0} (f : Handlers Z) (x : Stmt-F Stmt Task)
      → stmt_of f cx (roll-Stmt x) ≡ stmt_step f cx (map-Stmt Stmt Task (Run Z Flow) (TaskRun Z) (stmt_of f cx) (task_of f) x)
  stmt_rolled {Z} f x = fold-roll-Stmt (Run Z Flow) (TaskRun Z) (stmt_step f cx) task_step x

  task_rolled : {Z : Type 0} (f : Handlers Z) (x : Task-F Stmt Task)
      → task_of f (roll-Task x) ≡ task_step (map-Task Stmt Task (Run Z Flow) (TaskRun Z) (stmt_of f cx) (task_of f) x)
  task_rolled {Z} f x = fold-roll-Task (Run Z Flow) (TaskRun Z) (stmt_step f cx) task_step x

  both_rolled : {u u' : Run X Flow} {v v' : Run Y Flow} → u ≡ u' → v ≡ v' → R Flow u' v' → R Flow u v
  both_rolled {u} {u'} {v} {v'} a b r = subst (λ z. R Flow z v) (sym a) (subst (λ z. R Flow u' z) (sym b) r)

  both_rolled_tasks : {u u' : TaskRun X} {v v' : TaskRun Y} → u ≡ u' → v ≡ v' → TasksAlike (State X) (State Y) R u' v' → TasksAlike (State X) (State Y) R u v
  both_rolled_tasks {u} {u'} {v} {v'} a b r = subst (λ z. TasksAlike (State X) (State Y) R z v) (sym a) (subst (λ z. TasksAlike (State X) (State Y) R u' z) (sym b) r)

  written_rolled : (P : ℕ → Type 0) (step : Stmt-F (List ℕ) (List ℕ) → List ℕ) (x : Stmt-F Stmt Task)
      → AllByRecursion P (fold-Stmt (List ℕ) (List ℕ) step written_in_task (roll-Stmt x))
      → AllByRecursion P (step (map-Stmt Stmt Task (List ℕ) (List ℕ) (fold-Stmt (List ℕ) (List ℕ) step written_in_task) (fold-Task (List ℕ) (List ℕ) step written_in_task) x))
  written_rolled P step x = subst (AllByRecursion P) (fold-roll-Stmt (List ℕ) (List ℕ) step written_in_task x)

  task_written_rolled : (P : ℕ → Type 0) (step : Stmt-F (List ℕ) (List ℕ) → List ℕ) (x : Task-F Stmt Task)
      → AllByRecursion P (fold-Task (List ℕ) (List ℕ) step written_in_task (roll-Task x))
      → AllByRecursion P (written_in_task (map-Task Stmt Task (List ℕ) (List ℕ) (fold-Stmt (List ℕ) (List ℕ) step written_in_task) (fold-Task (List ℕ) (List ℕ) step written_in_task) x))
  task_written_rolled P step x = subst (AllByRecursion P) (fold-roll-Task (List ℕ) (List ℕ) step written_in_task x)

  pub keeps-stmt : (s : Stmt) → StmtKept s
  keeps-stmt = ind-Stmt StmtKept TaskKept
      (λ x y is. subst (λ z. StmtKept (roll-Stmt z)) is (λ may rows.
      both_rolled (stmt_rolled h _) (stmt_rolled h' _) (keeps-stmt_step (λ c. c.0) (λ c. c.0) (λ c. c.1) (λ c. c.1) y
      (written_rolled S scalars_step _ may) (written_rolled T arrays_step _ rows))))
      (λ x y is. subst (λ z. TaskKept (roll-Task z)) is (λ may rows.
      both_rolled_tasks (task_rolled h _) (task_rolled h' _) (keeps-task_step (λ c. c.0) (λ c. c.0) (λ c. c.1) (λ c. c.1) y
      (task_written_rolled S scalars_step _ may) (task_written_rolled T arrays_step _ rows))))

  pub keeps-program : AllByRecursion S (map (λ s. s.slot) cx.program.start) → AllByRecursion S (scalars_written cx.program.body)
      → AllByRecursion T (arrays_written cx.program.body) → R Flow (program h cx) (program h' cx)
  keeps-program first may rows = keeps-then (keeps-starts cx.program.start first) (keeps-stmt cx.program.body may rows)
