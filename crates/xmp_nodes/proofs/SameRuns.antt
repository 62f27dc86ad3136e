-- Runs that are the same: between directives the run that notes exchanges does what the erased one does, and in step a
-- node by itself does the erased statement over its packed store.
use Rattle.std.proofs.Common.{◌≡◌, ℕ, ℤ, pos, true, true≢false, List, [], ◌∷◌, map, Option, Some, None, refl, sym, subst, ap, ◌∙◌}
use Rattle.xmp_num.specs.Arithmetic.{binary_of}
use Rattle.xmp_num.specs.Decimal.{scan_of}
use Rattle.xmp_prog.specs.declared.parts.ProgParts.{ProgParts}
use Rattle.xmp_prog.specs.declared.expressions.Expr.{Expr}
use Rattle.xmp_prog.specs.declared.expressions.Access.{Access}
use Rattle.xmp_prog.specs.declared.expressions.Expr.TheOpen.{Expr-F}
use Rattle.xmp_prog.specs.declared.expressions.Expr.TheFolds.{fold-Expr, fold-Access}
use Rattle.xmp_prog.specs.declared.statements.Compound.{Compound}
use Rattle.xmp_prog.specs.declared.statements.Target.{Target}
use Rattle.xmp_prog.specs.declared.statements.Target.TheVariants as target
use Rattle.xmp_prog.specs.declared.statements.Plain.{Plain}
use Rattle.xmp_prog.specs.declared.statements.Plain.TheVariants as plain
use Rattle.xmp_prog.specs.declared.statements.Stmt.{Stmt, map-Stmt}
use Rattle.xmp_prog.specs.declared.statements.Stmt.TheOpen.{Stmt-F, Task-F}
use Rattle.xmp_prog.specs.declared.statements.Stmt.TheFolds.{fold-Task, ind-Stmt, fold-roll-Stmt, fold-roll-Task}
use Rattle.xmp_prog.specs.declared.statements.Stmt.TheViews.{roll-Stmt, roll-Task}
use Rattle.xmp_prog.specs.declared.statements.Task.{Task, map-Task}
use Rattle.xmp_meaning.specs.declared.location.Location.{Location}
use Rattle.xmp_meaning.specs.declared.location.Location.TheVariants as location
use Rattle.xmp_meaning.specs.declared.ends.Flow.{Flow}
use Rattle.xmp_meaning.specs.declared.ends.Flow.TheVariants.{Next, Returned}
use Rattle.xmp_meaning.specs.Runs.{Run, ◌>>=◌, pure, or_trap, scalar, set_scalar, taken, set_taken, write}
use Rattle.xmp_meaning.specs.Context.{Context}
use Rattle.xmp_meaning.specs.Handlers.{TaskRun, erased}
use Rattle.xmp_meaning.specs.Blocks.{each, block}
use Rattle.xmp_meaning.specs.Expressions.{Element, expr_step, access_step, expr_of, element_of, cell_number, cell_of, call}
use Rattle.xmp_meaning.specs.Formats.{printed}
use Rattle.xmp_meaning.specs.Assignments.{at_target, assign, scan, store, store_read, initialise, location_type}
use Rattle.xmp_meaning.specs.Statements.{plain_of, stmt_step, task_step, stmt_of}
use Rattle.xmp_meaning.specs.Exchanges.{Notes, traced}
use Rattle.xmp_meaning.specs.Traffic.{node_context}
use Rattle.xmp_meaning_laws.specs.Laws.{is_plain}
use Rattle.xmp_nodes.specs.Tasks.{TaskOf}
use Rattle.xmp_nodes.specs.Lockstep.{Both, both_step, task_both, lockstep}
use Rattle.xmp_nodes.proofs.Leaves.{AloneIsErased}

-- ---- expressions and plain statements

module _ (p : ProgParts) (cx : Context) where
  same_step : (y : Expr-F (Run Notes ℤ) (Element Notes)) → expr_step (traced p) cx y ≡ expr_step erased cx y
  same_step (Expr-F.Const v ty) = refl
  same_step (Expr-F.Scalar slot at) = refl
  same_step (Expr-F.Cell a) = refl
  same_step (Expr-F.Binary op ty a b at) = refl
  same_step (Expr-F.Both a b) = refl
  same_step (Expr-F.Either a b) = refl
  same_step (Expr-F.Choose a b c) = refl
  same_step (Expr-F.Convert ty a) = refl
  same_step (Expr-F.Call function arguments at) = refl
  same_step Expr-F.Node = refl
  same_step Expr-F.Nodes = refl

  -- an expression is read alike
  pub noted_expr : (e : Expr) → expr_of {X = Notes} (traced p) cx e ≡ expr_of erased cx e
  noted_expr e = λ j. fold-Expr (Run Notes ℤ) (Element Notes) (λ y. same_step y j) (access_step cx) e

  pub noted_element : (a : Access) → element_of {X = Notes} (traced p) cx a ≡ element_of erased cx a
  noted_element a = λ j. fold-Access (Run Notes ℤ) (Element Notes) (λ y. same_step y j) (access_step cx) a

  pub noted_cell : (a : Access) → cell_of {X = Notes} (traced p) cx a ≡ cell_of erased cx a
  noted_cell a = ap (cell_number cx) (noted_element a)

  noted_each : (es : List Expr) → each {A = ℤ} (map (expr_of {X = Notes} (traced p) cx) es) [] ≡ each (map (expr_of erased cx) es) []
  noted_each es = λ j. each (map (λ e. noted_expr e j) es) []

  noted_assign : (c : Option Compound) (e : Expr) (l : Location) → assign {X = Notes} (traced p) cx c e l ≡ assign erased cx c e l
  noted_assign None e (location.Scalar slot) = ap (λ (r : Run Notes ℤ). r >>= (λ v. store erased cx (location.Scalar slot) v >>= (λ u. pure Next))) (noted_expr e)
  noted_assign None e (location.Cell array at) = ap (λ (r : Run Notes ℤ). r >>= (λ v. store erased cx (location.Cell array at) v >>= (λ u. pure Next))) (noted_expr e)
  noted_assign (Some d) e (location.Scalar slot) =
      ap (λ (r : Run Notes ℤ). (scalar slot >>= (λ old. r >>= (λ v. or_trap (binary_of d.op d.ty old v) d.at))) >>= (λ v. store erased cx (location.Scalar slot) v >>= (λ u. pure Next))) (noted_expr e)
  noted_assign (Some d) e (location.Cell array at) =
      ap (λ (r : Run Notes ℤ). (erased.get array at >>= (λ old. r >>= (λ v. or_trap (binary_of d.op d.ty old v) d.at))) >>= (λ v. store erased cx (location.Cell array at) v >>= (λ u. pure Next))) (noted_expr e)

  noted_scan : (l : Location) → scan {X = Notes} (traced p) cx l ≡ scan erased cx l
  noted_scan l = λ j. taken >>= (λ at. set_taken (scan_of (location_type cx.program l) cx.input at).1 >>= (λ u. read_of l (scan_of (location_type cx.program l) cx.input at).0 j))
    where
      read_of : (l : Location) (o : Option ℤ) → store_read {X = Notes} (traced p) cx l o ≡ store_read erased cx l o
      read_of l None = refl
      read_of (location.Scalar slot) (Some v) = refl
      read_of (location.Cell array at) (Some v) = refl

  noted_target : (t : Target) (f g : Location → Run Notes Flow) → ((l : Location) → f l ≡ g l) → at_target (traced p) cx t f ≡ at_target erased cx t g
  noted_target (target.Scalar slot at) f g h = h (location.Scalar slot)
  noted_target (target.Cell a) f g h = λ j. noted_cell a j >>= (λ n. h (location.Cell a.array n) j)

  noted_initialise : (slot : ℕ) (o : Option Expr) → initialise {X = Notes} (traced p) cx slot o ≡ initialise erased cx slot o
  noted_initialise slot None = refl
  noted_initialise slot (Some e) = ap (λ (r : Run Notes ℤ). r >>= (λ v. store erased cx (location.Scalar slot) v >>= (λ u. pure Next))) (noted_expr e)

  -- and a statement that is neither a directive nor `xmp_sync_all` is done alike
  pub noted_plain : (q : Plain) → is_plain q ≡ true → plain_of {X = Notes} (traced p) cx q ≡ plain_of erased cx q
  noted_plain (plain.Declare slot value at) h = ap (λ (r : Run Notes Flow). set_scalar slot (pos 0) >>= (λ u. r)) (noted_initialise slot value)
  noted_plain (plain.Set to c e) h = noted_target to (assign (traced p) cx c e) (assign erased cx c e) (noted_assign c e)
  noted_plain (plain.Return e) h = ap (λ (r : Run Notes ℤ). r >>= (λ v. pure (Returned v))) (noted_expr e)
  noted_plain (plain.Call function arguments at) h = ap (λ (r : Run Notes (List ℤ)). r >>= (λ vs. call cx function vs >>= (λ u. pure Next))) (noted_each arguments)
  noted_plain (plain.Print format arguments at) h = ap (λ (r : Run Notes (List ℤ)). r >>= (λ vs. write (printed format vs) >>= (λ u. pure Next))) (noted_each arguments)
  noted_plain (plain.Scan to at) h = noted_target to (scan (traced p) cx) (scan erased cx) noted_scan
  noted_plain (plain.Sync status at) h = absurd (true≢false (sym h))
  noted_plain (plain.Reflect arrays at) h = absurd (true≢false (sym h))
  noted_plain (plain.Barrier at) h = absurd (true≢false (sym h))
  noted_plain (plain.Cast variables from at) h = absurd (true≢false (sym h))
  noted_plain (plain.Gmove to from at) h = absurd (true≢false (sym h))

-- ---- one node in step

module _ (p : ProgParts) (input : List ℕ) (node : ℕ) where
  abbrev cx : Context
  cx = node_context p node input

  abbrev Alone : Stmt → Type 0
  Alone x = (lockstep p input x).at node ≡ stmt_of erased cx x

  abbrev task_of : Task → TaskOf
  task_of = fold-Task Both TaskOf (both_step p input) task_both

  abbrev task_run_of : Task → TaskRun (Unit {0})
  task_run_of = fold-Task (Run (Unit {0}) Flow) (TaskRun (Unit {0})) (stmt_step erased cx) task_step

  abbrev AloneTask : Task → Type 0
  AloneTask t = (task_of t).at node ≡ (task_run_of t).run

  module _ {C D : Type 0} (f : C → Stmt) (g : D → Task) (h : (c : C) → Alone (f c)) (i : (d : D) → AloneTask (g d)) where
    alone_all : (cs : List C) → map (λ (s : Both). s.at node) (map (lockstep p input) (map f cs)) ≡ map (stmt_of erased cx) (map f cs)
    alone_all [] = refl
    alone_all (c ∷ cs) = λ j. h c j ∷ alone_all cs j

    alone_tasks : (ds : List D) → map (λ (t : TaskOf). t.at node) (map task_of (map g ds)) ≡ map (λ (t : TaskRun (Unit {0})). t.run) (map task_run_of (map g ds))
    alone_tasks [] = refl
    alone_tasks (d ∷ ds) = λ j. i d j ∷ alone_tasks ds j

    alone_form : (y : Stmt-F C D) → (both_step p input (map-Stmt Stmt Task Both TaskOf (lockstep p input) task_of (map-Stmt C D Stmt Task f g y))).at node
        ≡ stmt_step erased cx (map-Stmt Stmt Task (Run (Unit {0}) Flow) (TaskRun (Unit {0})) (stmt_of erased cx) task_run_of (map-Stmt C D Stmt Task f g y))
    alone_form (Stmt-F.Plain q) = refl
    alone_form (Stmt-F.Block all) = ap block (alone_all all)
    alone_form (Stmt-F.If e a b) = λ j. stmt_step erased cx (Stmt-F.If e (h a j) (h b j))
    alone_form (Stmt-F.While e body at) = λ j. stmt_step erased cx (Stmt-F.While e (h body j) at)
    alone_form (Stmt-F.Counted head body) = λ j. stmt_step erased cx (Stmt-F.Counted head (h body j))
    alone_form (Stmt-F.Loop directive body) = λ j. stmt_step erased cx (Stmt-F.Loop directive (h body j))
    alone_form (Stmt-F.Tasks all at) = ap block (alone_tasks all)

    alone_task : (y : Task-F C D) → (task_both (map-Task Stmt Task Both TaskOf (lockstep p input) task_of (map-Task C D Stmt Task f g y))).at node
        ≡ (task_step (map-Task Stmt Task (Run (Unit {0}) Flow) (TaskRun (Unit {0})) (stmt_of erased cx) task_run_of (map-Task C D Stmt Task f g y))).run
    alone_task y = h y.body

  pub alone : (x : Stmt) → Alone x
  alone = ind-Stmt Alone AloneTask
      (λ x y is. subst (λ z. Alone (roll-Stmt z)) is (
      ap (λ (b : Both). b.at node) (fold-roll-Stmt Both TaskOf (both_step p input) task_both _)
      ∙ alone_form (λ c. c.0) (λ d. d.0) (λ c. c.1) (λ d. d.1) y
      ∙ sym (fold-roll-Stmt (Run (Unit {0}) Flow) (TaskRun (Unit {0})) (stmt_step erased cx) task_step _)))
      (λ x y is. subst (λ z. AloneTask (roll-Task z)) is (
      ap (λ (t : TaskOf). t.at node) (fold-roll-Task Both TaskOf (both_step p input) task_both _)
      ∙ alone_task (λ c. c.0) (λ d. d.0) (λ c. c.1) (λ d. d.1) y
      ∙ ap (λ (t : TaskRun (Unit {0})). t.run) (sym (fold-roll-Task (Run (Unit {0}) Flow) (TaskRun (Unit {0})) (stmt_step erased cx) task_step _))))

pub alone_is_erased : AloneIsErased
alone_is_erased p input x node = alone p input node x
