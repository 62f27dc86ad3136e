-- A statement without `return` doesn't return. Directives mean nothing here.
use Rattle.std.proofs.Common.{◌≡◌, ℕ, zero, suc, ℤ, pos, Bool, true, false, true≢false, List, [], ◌∷◌, map, Option, Some, None, sym, subst}
use Rattle.std.specs.List.{AllByRecursion, flat_map}
use Rattle.xmp_num.specs.Decimal.{scan_of}
use Rattle.xmp_map.specs.declared.grid.NodeSet.{NodeSet}
use Rattle.xmp_prog.specs.declared.expressions.Expr.{Expr}
use Rattle.xmp_prog.specs.declared.statements.Compound.{Compound}
use Rattle.xmp_prog.specs.declared.statements.LoopHead.{LoopHead}
use Rattle.xmp_prog.specs.declared.statements.MoveSide.{MoveSide}
use Rattle.xmp_prog.specs.declared.statements.Target.{Target}
use Rattle.xmp_prog.specs.declared.statements.Target.TheVariants as target
use Rattle.xmp_prog.specs.declared.statements.Plain.{Plain}
use Rattle.xmp_prog.specs.declared.statements.Plain.TheVariants as plain
use Rattle.xmp_prog.specs.declared.statements.Stmt.{Stmt, map-Stmt}
use Rattle.xmp_prog.specs.declared.statements.Task.{Task}
use Rattle.xmp_prog.specs.declared.statements.Stmt.TheOpen.{Stmt-F}
use Rattle.xmp_prog.specs.declared.statements.Stmt.TheFolds.{ind-Stmt, fold-Task, fold-roll-Stmt, fold-roll-Task}
use Rattle.xmp_prog.specs.declared.statements.Stmt.TheViews.{roll-Stmt, roll-Task}
use Rattle.xmp_prog.specs.Statements.{Statement, Walked, WalkedTask, walk_step, walk_task, walked, statements_of}
use Rattle.xmp_prog.specs.Tests.{is_return}
use Rattle.xmp_meaning.specs.declared.location.Location.{Location}
use Rattle.xmp_meaning.specs.declared.location.Location.TheVariants as location
use Rattle.xmp_meaning.specs.declared.ends.Flow.{Flow}
use Rattle.xmp_meaning.specs.declared.ends.Flow.TheVariants.{Next, Returned}
use Rattle.xmp_meaning.specs.Runs.{State, Step, Gave, Ended, Run, and_then, ◌>>=◌, pure, set_scalar, write, taken, set_taken, take_step}
use Rattle.xmp_meaning.specs.Blocks.{each, after, then_run, block, choose, turns}
use Rattle.xmp_meaning.specs.Context.{Context}
use Rattle.xmp_meaning.specs.Handlers.{TaskRun, task_run, erased}
use Rattle.xmp_meaning.specs.Expressions.{expr_of, cell_of, call, holds}
use Rattle.xmp_meaning.specs.Formats.{printed}
use Rattle.xmp_meaning.specs.Assignments.{location_type, store, at_target, new_value, assign, initialise, store_read, scan}
use Rattle.xmp_meaning.specs.Loops.{inside, step_up, turn, entering, counted, nest}
use Rattle.xmp_meaning.specs.Sections.{cell_at, aim, read_cell, store_all}
use Rattle.xmp_meaning.specs.Statements.{plain_of, stmt_step, task_step, stmt_of}
use Rattle.xmp_meaning_laws.proofs.Conditions.{all_apart}
use Rattle.xmp_nodes.proofs.Standing.{NoReturn}
use Rattle.xmp_nodes.proofs.Turns.{GoesOn}

module _ {X : Type 0} where
  -- it goes on from each state
  abbrev pub Goes : Run X Flow → Type 0
  Goes p = (s : State X) → GoesOn (p s)

  -- ---- one after the other

  behind_step : {A : Type 0} (r : Step X A) (f : A → Run X Flow) → ((a : A) → Goes (f a)) → GoesOn (and_then r f)
  behind_step (Gave a s) f h = h a s
  behind_step (Ended e s) f h = tt

  -- what follows any part goes on
  goes_behind : {A : Type 0} (p : Run X A) (f : A → Run X Flow) → ((a : A) → Goes (f a)) → Goes (p >>= f)
  goes_behind p f h s = behind_step (p s) f h

  behind_flow : (r : Step X Flow) (q : Run X Flow) → GoesOn r → Goes q → GoesOn (and_then r (λ flow. after flow q))
  behind_flow (Gave Next s) q g h = h s
  behind_flow (Gave (Returned v) s) q g h = absurd g
  behind_flow (Ended e s) q g h = tt

  goes_then : (p q : Run X Flow) → Goes p → Goes q → Goes (then_run p q)
  goes_then p q g h s = behind_flow (p s) q (g s) h

  next_goes : Goes (pure Next)
  next_goes s = tt

  goes_next : {A : Type 0} (p : Run X A) → Goes (p >>= (λ a. pure Next))
  goes_next p = goes_behind p (λ a. pure Next) (λ a. next_goes)

  goes_block : (ps : List (Run X Flow)) → AllByRecursion Goes ps → Goes (block ps)
  goes_block [] h = next_goes
  goes_block (p ∷ ps) h = goes_then p (block ps) h.0 (goes_block ps h.1)

  goes_choose : (b : Bool) (p q : Run X Flow) → Goes p → Goes q → Goes (choose b p q)
  goes_choose true p q g h = g
  goes_choose false p q g h = h

  goes_turns : (n : ℕ) (test : Run X Bool) (body : Run X Flow) → Goes body → Goes (turns n test body)
  goes_turns zero test body h = next_goes
  goes_turns (suc n) test body h =
      goes_behind test (λ more. choose more (then_run body (turns n test body)) (pure Next))
      (λ more. goes_choose more (then_run body (turns n test body)) (pure Next) (goes_then body (turns n test body) h (goes_turns n test body h)) next_goes)

module _ (X : Type 0) (cx : Context) where
  abbrev Onward : Run X Flow → Type 0
  Onward p = (s : State X) → GoesOn (p s)

  goes_step_up : (head : LoopHead) → Onward (step_up head)
  goes_step_up head s = tt

  goes_counted : (head : LoopHead) (body : Run X Flow) → Onward body → Onward (counted erased cx head body)
  goes_counted head body h =
      goes_behind (entering erased cx head) (λ n. turns n (inside erased cx head) (then_run body (step_up head)))
      (λ n. goes_turns n (inside erased cx head) (then_run body (step_up head)) (goes_then body (step_up head) h (goes_step_up head)))

  goes_nest : (heads : List LoopHead) (body : Run X Flow) → Onward body → Onward (nest erased cx heads body)
  goes_nest [] body h = h
  goes_nest (head ∷ heads) body h = goes_counted head (nest erased cx heads body) (goes_nest heads body h)

  -- ---- statements that hold none

  goes_target : (to : Target) (f : Location → Run X Flow) → ((l : Location) → Onward (f l)) → Onward (at_target erased cx to f)
  goes_target (target.Scalar slot at) f h = h (location.Scalar slot)
  goes_target (target.Cell a) f h = goes_behind (cell_of erased cx a) (λ n. f (location.Cell a.array n)) (λ n. h (location.Cell a.array n))

  stores : Location → ℤ → Run X Flow
  stores l v = store erased cx l v >>= (λ u. pure Next)

  goes_assign : (c : Option Compound) (e : Expr) (l : Location) → Onward (assign erased cx c e l)
  unfolding stores
  goes_assign c e l = goes_behind (new_value erased cx l c e) (stores l) (λ v. goes_next (store erased cx l v))

  goes_initialise : (slot : ℕ) (value : Option Expr) → Onward (initialise erased cx slot value)
  unfolding stores
  goes_initialise slot None = next_goes
  goes_initialise slot (Some e) = goes_behind (expr_of erased cx e) (stores (location.Scalar slot)) (λ v. goes_next (store erased cx (location.Scalar slot) v))

  goes_store_read : (l : Location) (v : Option ℤ) → Onward (store_read erased cx l v)
  goes_store_read l None = next_goes
  goes_store_read l (Some v) = goes_next (store erased cx l v)

  goes_scan : (l : Location) → Onward (scan erased cx l)
  goes_scan l =
      goes_behind taken (λ at. set_taken (scan_of (location_type cx.program l) cx.input at).1 >>= (λ u. store_read erased cx l (scan_of (location_type cx.program l) cx.input at).0))
      (λ at. goes_behind (set_taken (scan_of (location_type cx.program l) cx.input at).1) (λ u. store_read erased cx l (scan_of (location_type cx.program l) cx.input at).0)
      (λ u. goes_store_read l (scan_of (location_type cx.program l) cx.input at).0))

  goes_store_all : (s : MoveSide) (ns : List ℕ) (vs : List ℤ) → Onward (store_all erased cx s ns vs)
  goes_store_all s [] vs = next_goes
  goes_store_all s (n ∷ ns) [] = next_goes
  goes_store_all s (n ∷ ns) (v ∷ vs) = goes_behind (store erased cx (cell_at s n) v) (λ u. store_all erased cx s ns vs) (λ u. goes_store_all s ns vs)

  goes_plain : (q : Plain) → is_return {A = List ℕ} {B = NodeSet} (Stmt-F.Plain q) ≡ false → Onward (plain_of erased cx q)
  goes_plain (plain.Declare slot value at) e = goes_behind (set_scalar slot (pos 0)) (λ u. initialise erased cx slot value) (λ u. goes_initialise slot value)
  goes_plain (plain.Set to c value) e = goes_target to (assign erased cx c value) (goes_assign c value)
  goes_plain (plain.Return value) e = absurd (true≢false e)
  goes_plain (plain.Call function arguments at) e =
      goes_behind (each (map (expr_of erased cx) arguments) []) (λ vs. call cx function vs >>= (λ u. pure Next)) (λ vs. goes_next (call cx function vs))
  goes_plain (plain.Print format arguments at) e =
      goes_behind (each (map (expr_of erased cx) arguments) []) (λ vs. write (printed format vs) >>= (λ u. pure Next)) (λ vs. goes_next (write (printed format vs)))
  goes_plain (plain.Scan to at) e = goes_target to (scan erased cx) goes_scan
  goes_plain (plain.Sync status at) e = goes_then (pure Next) (set_scalar status.number (pos 0) >>= (λ u. pure Next)) next_goes (goes_next (set_scalar status.number (pos 0)))
  goes_plain (plain.Reflect arrays at) e = next_goes
  goes_plain (plain.Barrier at) e = next_goes
  goes_plain (plain.Cast variables from at) e = next_goes
  goes_plain (plain.Gmove to from at) e =
      goes_behind (aim erased cx to from) (λ a. each (map (read_cell erased from) a.sources) [] >>= store_all erased cx to a.targets)
      (λ a. goes_behind (each (map (read_cell erased from) a.sources) []) (store_all erased cx to a.targets) (λ vs. goes_store_all to a.targets vs))

  -- ---- all statements

  abbrev StmtGoes : Stmt → Type 0
  StmtGoes x = NoReturn x → Onward (stmt_of erased cx x)

  abbrev task_of : Task → TaskRun X
  task_of = fold-Task (Run X Flow) (TaskRun X) (stmt_step erased cx) task_step

  abbrev walked_task : Task → WalkedTask
  walked_task = fold-Task Walked WalkedTask walk_step walk_task

  abbrev TaskGoes : Task → Type 0
  TaskGoes t = AllByRecursion (λ y. is_return y ≡ false) (walked_task t).statements → Onward (task_of t).run

  module _ {C D : Type 0} (p : C → Stmt) (q : D → Task) (j : (c : C) → StmtGoes (p c)) (i : (d : D) → TaskGoes (q d)) where
    abbrev mapped : Stmt-F C D → Stmt-F Stmt Task
    mapped y = map-Stmt C D Stmt Task p q y

    abbrev of_run : Stmt-F C D → Run X Flow
    of_run y = stmt_step erased cx (map-Stmt Stmt Task (Run X Flow) (TaskRun X) (stmt_of erased cx) task_of (mapped y))

    abbrev of_walk : Stmt-F C D → List Statement
    of_walk y = (walk_step (map-Stmt Stmt Task Walked WalkedTask walked walked_task (mapped y))).statements

    all_go : (cs : List C) → AllByRecursion (λ y. is_return y ≡ false) (flat_map (λ s. s.statements) (map walked (map p cs)))
        → AllByRecursion Onward (map (stmt_of erased cx) (map p cs))
    all_go [] h = tt
    all_go (c ∷ cs) h =
        let both : _ = all_apart (λ y. is_return y ≡ false) (statements_of (p c)) (flat_map (λ s. s.statements) (map walked (map p cs))) h in
        (j c both.0, all_go cs both.1)

    all_tasks_go : (ds : List D) → AllByRecursion (λ y. is_return y ≡ false) (flat_map (λ t. t.statements) (map walked_task (map q ds)))
        → AllByRecursion Onward (map task_run (map task_of (map q ds)))
    all_tasks_go [] h = tt
    all_tasks_go (d ∷ ds) h =
        let both : _ = all_apart (λ y. is_return y ≡ false) (walked_task (q d)).statements (flat_map (λ t. t.statements) (map walked_task (map q ds))) h in
        (i d both.0, all_tasks_go ds both.1)

    goes_of_step : (y : Stmt-F C D) → AllByRecursion (λ y. is_return y ≡ false) (of_walk y) → Onward (of_run y)
    goes_of_step (Stmt-F.Plain s) h = goes_plain s h.0
    goes_of_step (Stmt-F.Block all) h = goes_block (map (stmt_of erased cx) (map p all)) (all_go all h.1)
    goes_of_step (Stmt-F.If e a b) h =
        let both : _ = all_apart (λ y. is_return y ≡ false) (statements_of (p a)) (statements_of (p b)) h.1 in
        goes_behind (holds (expr_of erased cx e)) (λ v. choose v (stmt_of erased cx (p a)) (stmt_of erased cx (p b)))
        (λ v. goes_choose v (stmt_of erased cx (p a)) (stmt_of erased cx (p b)) (j a both.0) (j b both.1))
    goes_of_step (Stmt-F.While e body at) h = λ s.
        goes_turns (suc s.steps) (holds (expr_of erased cx e)) (turn (stmt_of erased cx (p body)))
        (goes_behind take_step (λ u. stmt_of erased cx (p body)) (λ u. j body h.1)) s
    goes_of_step (Stmt-F.Counted head body) h = goes_counted head (stmt_of erased cx (p body)) (j body h.1)
    goes_of_step (Stmt-F.Loop directive body) h = goes_nest directive.nest (stmt_of erased cx (p body)) (j body h.1)
    goes_of_step (Stmt-F.Tasks all at) h = goes_block (map task_run (map task_of (map q all))) (all_tasks_go all h.1)

  rolled : {w w' : Walked} {u u' : Run X Flow} → w ≡ w' → u ≡ u' → (AllByRecursion (λ y. is_return y ≡ false) w'.statements → Onward u')
      → AllByRecursion (λ y. is_return y ≡ false) w.statements → Onward u
  rolled {w} {w'} {u} {u'} a b f h = subst Onward (sym b) (f (subst (λ z. AllByRecursion (λ y. is_return y ≡ false) z.statements) a h))

  task_rolled : {w w' : WalkedTask} {u u' : TaskRun X} → w ≡ w' → u ≡ u' → (AllByRecursion (λ y. is_return y ≡ false) w'.statements → Onward u'.run)
      → AllByRecursion (λ y. is_return y ≡ false) w.statements → Onward u.run
  task_rolled {w} {w'} {u} {u'} a b f h = subst (λ z. Onward z.run) (sym b) (f (subst (λ z. AllByRecursion (λ y. is_return y ≡ false) z.statements) a h))

  pub statement_goes : (x : Stmt) → StmtGoes x
  statement_goes = ind-Stmt StmtGoes TaskGoes
      (λ x y is. subst (λ z. StmtGoes (roll-Stmt z)) is
      (rolled (fold-roll-Stmt Walked WalkedTask walk_step walk_task _) (fold-roll-Stmt (Run X Flow) (TaskRun X) (stmt_step erased cx) task_step _)
      (goes_of_step (λ c. c.0) (λ c. c.0) (λ c. c.1) (λ c. c.1) y)))
      (λ x y is. subst (λ z. TaskGoes (roll-Task z)) is
      (task_rolled (fold-roll-Task Walked WalkedTask walk_step walk_task _) (fold-roll-Task (Run X Flow) (TaskRun X) (stmt_step erased cx) task_step _)
      (y.body.1)))
