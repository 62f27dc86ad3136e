-- All nodes in step follow the run that notes, statement by statement.
use Rattle.std.proofs.Common.{◌≡◌, ◌≢◌, ◌<◌, ℕ, ℤ, pos, ◌+ℤ◌, Bool, true, false, true≢false, not, ◌&&◌, ◌||◌, ◌==◌, List, [], ◌∷◌, map, Option, Some, None, refl, sym, subst, ap, ◌∙◌, if◌then◌else◌}
use Rattle.std.specs.Prelude.{slice_get, nat_le}
use Rattle.std.specs.List.{AllByRecursion, list_all}
use Rattle.std.proofs.lemmas.Option.{none-some}
use Rattle.xmp_base.specs.declared.place.Place.{Place}
use Rattle.xmp_num.specs.declared.types.Ty.TheVariants.{Int}
use Rattle.xmp_num.specs.Arithmetic.{FitsType, wrap}
use Rattle.xmp_prog.specs.declared.parts.ProgParts.{ProgParts}
use Rattle.xmp_prog.specs.declared.expressions.Expr.{Expr}
use Rattle.xmp_prog.specs.declared.statements.LoopDirective.{LoopDirective}
use Rattle.xmp_prog.specs.declared.statements.LoopHead.{LoopHead}
use Rattle.xmp_prog.specs.declared.statements.Plain.{Plain}
use Rattle.xmp_prog.specs.declared.statements.Plain.TheVariants as plain
use Rattle.xmp_prog.specs.declared.statements.Stmt.{Stmt, map-Stmt}
use Rattle.xmp_prog.specs.declared.statements.Stmt.TheOpen.{Stmt-F}
use Rattle.xmp_prog.specs.declared.statements.Stmt.TheVariants as stmt
use Rattle.xmp_prog.specs.declared.statements.Stmt.TheFolds.{ind-Stmt, fold-Task, fold-roll-Task}
use Rattle.xmp_prog.specs.declared.statements.Stmt.TheViews.{roll-Stmt, out-Stmt}
use Rattle.xmp_prog.specs.declared.statements.Task.{Task}
use Rattle.xmp_prog.specs.Numbers.{is_in, apart, same_type}
use Rattle.xmp_prog.specs.Counted.{most_counted, is_bound_term, is_small_constant, is_int_scalar, is_counted}
use Rattle.xmp_prog.specs.Terms.{terms_of, type_of, slots_of_terms}
use Rattle.xmp_prog.specs.Tests.{is_return}
use Rattle.xmp_prog.specs.Statements.{writes_of}
use Rattle.xmp_prog.specs.Fits.{node_count}
use Rattle.xmp_prog.proofs.Rolls as rolls
use Rattle.xmp_paths.specs.declared.event.Event.{Event}
use Rattle.xmp_paths.specs.Plans.{Plan, skip, sequence, branch, loop, Path, in_order}
use Rattle.xmp_paths.specs.Safe.{left, NothingWrong}
use Rattle.xmp_loops.specs.Objects.{scalar_object}
use Rattle.xmp_loops.specs.Forms.{is_nothing, assigns}
use Rattle.xmp_flow.specs.Reads.{reads_of}
use Rattle.xmp_flow.specs.Setting.{Setting, assigned}
use Rattle.xmp_flow.specs.PlainEvents.{in_form, plain_events}
use Rattle.xmp_flow.specs.Statements.{events_of, if_form, form_of_if}
use Rattle.xmp_flow.specs.Program.{outermost}
use Rattle.xmp_flow.proofs.FormLaws.{events_plain, events_block, events_if, events_while, events_counted, events_loop, events_tasks}
use Rattle.xmp_meaning.specs.declared.ends.Flow.{Flow}
use Rattle.xmp_meaning.specs.declared.ends.Flow.TheVariants.{Next}
use Rattle.xmp_meaning.specs.Runs.{RunIn, Run, ◌>>=◌, pure, scalar, set_scalar}
use Rattle.xmp_meaning.specs.Blocks.{then_run, block, choose, turns}
use Rattle.xmp_meaning.specs.Handlers.{TaskRun, erased}
use Rattle.xmp_meaning.specs.Expressions.{expr_of, holds, is_zero}
use Rattle.xmp_meaning.specs.Loops.{is_inside, turn_count, entering, inside, step_up, while_loop, counted, nest}
use Rattle.xmp_meaning.specs.Statements as meaning
use Rattle.xmp_meaning.specs.Statements.{plain_of, stmt_of}
use Rattle.xmp_meaning.specs.Declarations.{scalar_type}
use Rattle.xmp_meaning.specs.Exchanges.{Notes, traced}
use Rattle.xmp_meaning.specs.Traffic.{node_context}
use Rattle.xmp_meaning.specs.Writes.{scalars_written}
use Rattle.xmp_meaning.proofs.Forms.{stmt_plain, stmt_block, stmt_if, stmt_while, stmt_counted, stmt_loop}
use Rattle.xmp_map.proofs.Counted.{and_left, and_right}
use Rattle.xmp_meaning.proofs.WrittenOnce.{writes_are_one}
use Rattle.xmp_meaning_laws.proofs.Types.{nest_ints}
use Rattle.xmp_meaning_laws.proofs.Folds.{all_none}
use Rattle.xmp_meaning_laws.proofs.Values.{wrap_fits}
use Rattle.xmp_meaning_laws.specs.Laws.{is_plain}
use Rattle.xmp_nodes.specs.Nodes.{Nodes, all_do}
use Rattle.xmp_nodes.specs.Parts.{loop_all}
use Rattle.xmp_nodes.specs.Tasks.{TaskOf, tasks_all}
use Rattle.xmp_nodes.specs.Lockstep.{Both, both_step, task_both, plain_all, while_all, lockstep}
use Rattle.xmp_nodes.proofs.Agrees.{Carried, Anything, IsNext, at_main, AllFollow}
use Rattle.xmp_nodes.proofs.Standing.{IsGlobal, TermStands, PartFits, NoReturn, IsSetting, WritesFit}
use Rattle.xmp_nodes.proofs.Leaves as leaves
use Rattle.xmp_nodes.proofs.Leaves.{serial_cx, noting, noted_task, node_task, task_plan, GivesNext}
use Rattle.xmp_nodes.proofs.Below.{every_plain, every_block, every_if, every_while, every_counted, every_loop, every_tasks}
use Rattle.xmp_nodes.proofs.Follow.{right_front, right_back, right_first, right_second, right_turn, carried_pure, carried_on, carried_last}
use Rattle.xmp_nodes.proofs.InStep.{way_first, way_last, way_skipped, all_value, all_paths, all_on, all_choose, all_block, all_alone}
use Rattle.xmp_nodes.proofs.MainSteps.{set_marked, read_here}
use Rattle.xmp_nodes.proofs.LoopsInStep.{MarksNothing, turn_plan, all_while}
use Rattle.xmp_nodes.proofs.CountedInStep.{way_skip, way_loop, look, mark, counted_plan, all_counted}

-- what the lemmas of the parts say
pub record Parts : Type 0 where
  pub plain_parts : leaves.PlainFits
  pub block_parts : leaves.BlocksFit
  pub if_parts : leaves.IfsFit
  pub while_parts : leaves.WhilesFit
  pub counted_parts : leaves.CountedsFit
  pub all_stand : leaves.AllStand
  pub reads_keep : leaves.ReadsKeep
  pub unwritten_stay : leaves.UnwrittenStay
  pub expressions : leaves.ExpressionsCarry
  pub plains : leaves.PlainsCarry
  pub loops : leaves.LoopsFollow
  pub casts : leaves.CastsFollow
  pub reflects : leaves.ReflectsFollow
  pub gmoves : leaves.GmovesFollow
  pub barriers : leaves.BarriersFollow
  pub tasks : leaves.TasksFollow

-- ---- the body of main

pub main_setting : (p : ProgParts) (node : ℕ) → IsGlobal p → node < node_count p → IsSetting (at_main p node)
main_setting p node g below = record {
  global = g;
  program = refl;
  below = below;
  loops = refl;
  still = refl;
  all = λ e. refl;
  outside = λ e. refl;
  shared = λ e slot. refl;
  unwritten = λ e array. refl;
  directive = λ d e. absurd (none-some d e);
}

main_writes : (p : ProgParts) (node : ℕ) (x : Stmt) → WritesFit (at_main p node) x
main_writes p node x = record { scalars = λ d e. absurd (none-some d e); arrays = λ d e. absurd (none-some d e) }

-- no `if` is a reduction form there
no_form : (p : ProgParts) (e : Expr) (a b : Stmt) → if_form (outermost p) e a b ≡ None
no_form p e a b = of_tests (is_nothing (out-Stmt b)) (assigns (out-Stmt a))
  where
    of_tests : (n : Bool) (o : Option (ℕ × Expr)) → (if n then form_of_if (outermost p) e o else None) ≡ None
    of_tests false o = refl
    of_tests true None = refl
    of_tests true (Some set) = refl

-- the index of a counted loop is an int that its body doesn't write
pub index_int : (p : ProgParts) (head : LoopHead) (x : Stmt) → is_counted p head (writes_of x) ≡ true → scalar_type p head.index.number ≡ Int
index_int p head x e = (nest_ints p (head ∷ []) (writes_of x) (ap (λ b. b && true) e)).0

pub index_unwritten : (p : ProgParts) (head : LoopHead) (x : Stmt) → is_counted p head (writes_of x) ≡ true → AllByRecursion (λ n. n ≢ head.index.number) (scalars_written x)
index_unwritten p head x e =
    let slots : List ℕ = slots_of_terms (terms_of p head.to) in
    let others : Bool = ((head.step == 1) && not head.inclusive) || (is_small_constant head.to && (nat_le 1 head.step && nat_le head.step most_counted)) in
    let separate : Bool = apart (head.index.number ∷ slots) (writes_of x) in
    let unnamed : Bool = not (is_in slots head.index.number) in
    let terms : Bool = list_all is_bound_term (terms_of p head.to) in
    let a = and_right (is_int_scalar (slice_get p.scalars head.index.number)) (same_type (type_of p head.to) Int && (terms && (unnamed && (separate && others)))) e in
    let b = and_right (same_type (type_of p head.to) Int) (terms && (unnamed && (separate && others))) a in
    let c = and_right terms (unnamed && (separate && others)) b in
    let d = and_left separate others (and_right unnamed (separate && others) c) in
    subst (AllByRecursion (λ n. n ≢ head.index.number)) (sym (writes_are_one x)) (all_none (head.index.number ∷ slots) (writes_of x) d).0

module _ (parts : Parts) (p : ProgParts) (global : IsGlobal p) (some : 0 < node_count p) (input : List ℕ) where
  abbrev here : Setting
  here = outermost p

  -- a statement without `return`, whose parts fit and in which nothing is wrong, is followed
  abbrev pub FollowsAs : (Flow → Type 0) → Stmt → Type 0
  FollowsAs V x = AllFollow p V (events_of x here) (noting p input x) (lockstep p input x).all

  abbrev pub Followed : Stmt → Type 0
  Followed x = NoReturn x → PartFits p x → NothingWrong (events_of x here) → FollowsAs IsNext x

  -- ---- plain statements

  alone : (q : Plain) → is_plain q ≡ true → PartFits p (stmt.Plain q) → NothingWrong (plain_events q here)
      → AllFollow p (GivesNext q) (plain_events q here) (plain_of (traced p) (serial_cx p input) q) (all_do Next (λ node. plain_of erased (node_context p node input) q))
  alone q e fits right = all_alone p (GivesNext q) (plain_events q here) Next (plain_of (traced p) (serial_cx p input) q)
      (λ node. plain_of erased (node_context p node input) q) some
      (λ node below. parts.plains (at_main p node) (main_setting p node global below) (parts.all_stand p node below) input q e fits (main_writes p node (stmt.Plain q)) right)

  goes : (q : Plain) (f : Run Notes Flow) (g : RunIn Nodes Flow) → AllFollow p IsNext (plain_events q here) f g → AllFollow p (GivesNext q) (plain_events q here) f g
  goes q f g c = all_value p IsNext (GivesNext q) (plain_events q here) f g (λ v h n. h) c

  plain_follows : (q : Plain) → PartFits p (stmt.Plain q) → NothingWrong (plain_events q here)
      → AllFollow p (GivesNext q) (plain_events q here) (plain_of (traced p) (serial_cx p input) q) (plain_all p input q)
  plain_follows (plain.Declare slot value at) fits right = alone (plain.Declare slot value at) refl fits right
  plain_follows (plain.Set to compound value) fits right = alone (plain.Set to compound value) refl fits right
  plain_follows (plain.Return value) fits right = alone (plain.Return value) refl fits right
  plain_follows (plain.Call function arguments at) fits right = alone (plain.Call function arguments at) refl fits right
  plain_follows (plain.Print format arguments at) fits right = alone (plain.Print format arguments at) refl fits right
  plain_follows (plain.Scan to at) fits right = alone (plain.Scan to at) refl fits right
  plain_follows (plain.Sync status at) fits right = absurd (true≢false (sym (parts.plain_parts p (plain.Sync status at) fits).stands.sync))
  plain_follows (plain.Reflect arrays at) fits right = goes (plain.Reflect arrays at) ((traced p).reflect arrays) (plain_all p input (plain.Reflect arrays at)) (parts.reflects p global arrays at fits right)
  plain_follows (plain.Barrier at) fits right = goes (plain.Barrier at) (traced p).barrier (pure Next) (parts.barriers p global at)
  plain_follows (plain.Cast variables from at) fits right = goes (plain.Cast variables from at) ((traced p).bcast variables from) (plain_all p input (plain.Cast variables from at)) (parts.casts p global variables from at fits right)
  plain_follows (plain.Gmove target source at) fits right = goes (plain.Gmove target source at) (plain_of (traced p) (serial_cx p input) (plain.Gmove target source at)) (plain_all p input (plain.Gmove target source at)) (parts.gmoves p global input target source at fits right)

  pub plain_all_follow : (q : Plain) → PartFits p (stmt.Plain q) → NothingWrong (events_of (stmt.Plain q) here) → FollowsAs (GivesNext q) (stmt.Plain q)
  plain_all_follow q fits right =
      subst (λ g. AllFollow p (GivesNext q) (events_of (stmt.Plain q) here) (noting p input (stmt.Plain q)) g)
      (ap (λ (b : Both). b.all) (sym (rolls.at_plain Both TaskOf (both_step p input) task_both q)))
      (subst (λ f. AllFollow p (GivesNext q) (events_of (stmt.Plain q) here) f (plain_all p input q)) (sym (stmt_plain (traced p) (serial_cx p input) q))
      (subst (λ a. AllFollow p (GivesNext q) a (plain_of (traced p) (serial_cx p input) q) (plain_all p input q)) (sym (events_plain q here))
      (plain_follows q fits (subst NothingWrong (events_plain q here) right))))

  at_plain : (q : Plain) → Followed (stmt.Plain q)
  at_plain q quiet fits right = all_value p (GivesNext q) IsNext (events_of (stmt.Plain q) here) (noting p input (stmt.Plain q)) (lockstep p input (stmt.Plain q)).all
      (λ v h. h (every_plain (λ y. is_return y ≡ false) q quiet)) (plain_all_follow q fits right)

  -- ---- conditions

  condition : (e : Expr) → AllByRecursion (TermStands p) (terms_of p e) → NothingWrong (reads_of e here)
      → AllFollow p Anything (reads_of e here) (holds (expr_of (traced p) (serial_cx p input) e))
      (all_do false (λ node. holds (expr_of erased (node_context p node input) e)))
  condition e fits right = all_alone p Anything (reads_of e here) false (holds (expr_of (traced p) (serial_cx p input) e))
      (λ node. holds (expr_of erased (node_context p node input) e)) some
      (λ node below. carried_last (at_main p node) (FitsType (type_of p e)) Anything (reads_of e here) (expr_of (traced p) (serial_cx p input) e) (expr_of erased (node_context p node input) e)
      (λ v. pure (not (is_zero v))) (λ v. pure (not (is_zero v)))
      (parts.expressions (at_main p node) (main_setting p node global below) (parts.all_stand p node below) input e fits right)
      (λ v h. carried_pure (at_main p node) Anything (not (is_zero v)) tt))

  idle : (e : Expr) → MarksNothing (reads_of e here)
  idle e node way w stale object = parts.reads_keep here node e way w stale object

  -- ---- choices

  at_if : (e : Expr) (x y : Stmt) → Followed x → Followed y → Followed (stmt.If e x y)
  at_if e x y c d quiet fits right =
      let plan : Plan Event = sequence (reads_of e here) (sequence (branch (events_of x here) (events_of y here)) skip) in
      let events : events_of (stmt.If e x y) here ≡ plan = events_if e x y here ∙ ap (in_form here plan) (no_form p e x y) in
      let own = parts.if_parts p e x y fits in
      let fine : NothingWrong plan = subst NothingWrong events right in
      let both = right_front (branch (events_of x here) (events_of y here)) skip (right_back (reads_of e here) (sequence (branch (events_of x here) (events_of y here)) skip) fine) in
      let f : Bool → Run Notes Flow = λ v. choose v (noting p input x) (noting p input y) in
      let g : Bool → RunIn Nodes Flow = λ v. choose v (lockstep p input x).all (lockstep p input y).all in
      let none = every_if (λ z. is_return z ≡ false) e x y quiet in
      let test = holds (expr_of (traced p) (serial_cx p input) e) in
      let test' = all_do false (λ node. holds (expr_of erased (node_context p node input) e)) in
      subst (λ h. AllFollow p IsNext (events_of (stmt.If e x y) here) (noting p input (stmt.If e x y)) h)
      (ap (λ (b : Both). b.all) (sym (rolls.at_if Both TaskOf (both_step p input) task_both e x y)))
      (subst (λ h. AllFollow p IsNext (events_of (stmt.If e x y) here) h (test' >>= g)) (sym (stmt_if (traced p) (serial_cx p input) e x y))
      (subst (λ a. AllFollow p IsNext a (test >>= f) (test' >>= g)) (sym events)
      (all_paths p IsNext (sequence (reads_of e here) (branch (events_of x here) (events_of y here))) plan (test >>= f) (test' >>= g)
      (way_last (reads_of e here) (branch (events_of x here) (events_of y here)) (sequence (branch (events_of x here) (events_of y here)) skip) (way_skip (branch (events_of x here) (events_of y here))))
      (all_on p Anything IsNext (reads_of e here) (branch (events_of x here) (events_of y here)) test test' f g
      (condition e own.test (right_front (reads_of e here) (sequence (branch (events_of x here) (events_of y here)) skip) fine))
      (λ v u. all_choose p IsNext (events_of x here) (events_of y here) (noting p input x) (noting p input y) (lockstep p input x).all (lockstep p input y).all v
      (c none.0 own.first (right_first (events_of x here) (events_of y here) both))
      (d none.1 own.second (right_second (events_of x here) (events_of y here) both)))))))

  -- ---- loops

  at_while : (e : Expr) (x : Stmt) (at : Place) → Followed x → Followed (stmt.While e x at)
  at_while e x at c quiet fits right =
      let t : Plan Event = reads_of e here in
      let b : Plan Event = events_of x here in
      let plan : Plan Event = sequence skip (sequence (loop (sequence t (sequence b skip))) (sequence t skip)) in
      let own = parts.while_parts p e x at fits in
      let fine : NothingWrong plan = subst NothingWrong (events_while e x at here) right in
      let turn = right_turn (sequence t (sequence b skip)) (right_front (loop (sequence t (sequence b skip))) (sequence t skip) (right_back skip (sequence (loop (sequence t (sequence b skip))) (sequence t skip)) fine)) in
      let test = holds (expr_of (traced p) (serial_cx p input) e) in
      let test' = all_do false (λ node. holds (expr_of erased (node_context p node input) e)) in
      subst (λ h. AllFollow p IsNext (events_of (stmt.While e x at) here) (noting p input (stmt.While e x at)) h)
      (ap (λ (u : Both). u.all) (sym (rolls.at_while Both TaskOf (both_step p input) task_both e x at)))
      (subst (λ h. AllFollow p IsNext (events_of (stmt.While e x at) here) h (while_all test' (lockstep p input x).all)) (sym (stmt_while (traced p) (serial_cx p input) e x at))
      (subst (λ a. AllFollow p IsNext a (while_loop test (noting p input x)) (while_all test' (lockstep p input x).all)) (sym (events_while e x at here))
      (all_paths p IsNext (turn_plan p t b) plan (while_loop test (noting p input x)) (while_all test' (lockstep p input x).all)
      (λ way w. way_skipped (sequence (loop (sequence t (sequence b skip))) (sequence t skip)) way
      (way_first (loop (sequence t b)) (loop (sequence t (sequence b skip))) (sequence t skip) (way_loop (sequence t b) (sequence t (sequence b skip)) (way_last t b (sequence b skip) (way_skip b))) way
      (way_last (loop (sequence t b)) t (sequence t skip) (way_skip t) way w)))
      (all_while p some t b test test' (noting p input x) (lockstep p input x).all (idle e)
      (condition e own.test (right_front t (sequence b skip) turn))
      (c (every_while (λ z. is_return z ≡ false) e x at quiet) own.inner (right_front b skip (right_back t (sequence b skip) turn)))))))

  -- the steps of a counted loop
  module _ (head : LoopHead) (int : scalar_type p head.index.number ≡ Int) (from : AllByRecursion (TermStands p) (terms_of p head.from)) (to : AllByRecursion (TermStands p) (terms_of p head.to))
      (fine_from : NothingWrong (reads_of head.from here)) (fine_to : NothingWrong (reads_of head.to here)) where
    slot : ℕ
    slot = head.index.number

    index_fits : (v : ℤ) → FitsType (scalar_type p head.index.number) (wrap Int v)
    index_fits v = subst (λ ty. FitsType ty (wrap Int v)) (sym int) (wrap_fits Int v)

    enters : (node : ℕ) → node < node_count p
        → Carried (at_main p node) Anything (sequence (reads_of head.from here) (sequence (mark p head.index.number head.index.at) (reads_of head.to here)))
        (entering (traced p) (serial_cx p input) head) (entering erased (node_context p node input) head)
    enters node below =
        carried_on (at_main p node) (FitsType (type_of p head.from)) Anything (reads_of head.from here) (sequence (mark p head.index.number head.index.at) (reads_of head.to here))
        (expr_of (traced p) (serial_cx p input) head.from) (expr_of erased (node_context p node input) head.from)
        (λ v. set_scalar head.index.number (wrap Int v) >>= (λ u. expr_of (traced p) (serial_cx p input) head.to >>= (λ w. pure (turn_count (wrap Int v) (wrap Int w) head.inclusive head.step))))
        (λ v. set_scalar head.index.number (wrap Int v) >>= (λ u. expr_of erased (node_context p node input) head.to >>= (λ w. pure (turn_count (wrap Int v) (wrap Int w) head.inclusive head.step))))
        (parts.expressions (at_main p node) (main_setting p node global below) (parts.all_stand p node below) input head.from from fine_from)
        (λ v h. carried_on (at_main p node) Anything Anything (mark p head.index.number head.index.at) (reads_of head.to here)
        (set_scalar head.index.number (wrap Int v)) (set_scalar head.index.number (wrap Int v))
        (λ u. expr_of (traced p) (serial_cx p input) head.to >>= (λ w. pure (turn_count (wrap Int v) (wrap Int w) head.inclusive head.step)))
        (λ u. expr_of erased (node_context p node input) head.to >>= (λ w. pure (turn_count (wrap Int v) (wrap Int w) head.inclusive head.step)))
        (set_marked p node head.index.number (wrap Int v) (index_fits v))
        (λ u k. carried_last (at_main p node) (FitsType (type_of p head.to)) Anything (reads_of head.to here) (expr_of (traced p) (serial_cx p input) head.to) (expr_of erased (node_context p node input) head.to)
        (λ w. pure (turn_count (wrap Int v) (wrap Int w) head.inclusive head.step)) (λ w. pure (turn_count (wrap Int v) (wrap Int w) head.inclusive head.step))
        (parts.expressions (at_main p node) (main_setting p node global below) (parts.all_stand p node below) input head.to to fine_to)
        (λ w l. carried_pure (at_main p node) Anything (turn_count (wrap Int v) (wrap Int w) head.inclusive head.step) tt)))

    tests : (node : ℕ) → node < node_count p
        → Carried (at_main p node) Anything (sequence (look p head.index.number head.index.at) (reads_of head.to here))
        (inside (traced p) (serial_cx p input) head) (inside erased (node_context p node input) head)
    tests node below =
        carried_on (at_main p node) (FitsType (scalar_type p head.index.number)) Anything (look p head.index.number head.index.at) (reads_of head.to here) (scalar head.index.number) (scalar head.index.number)
        (λ i. expr_of (traced p) (serial_cx p input) head.to >>= (λ w. pure (is_inside head.inclusive i (wrap Int w))))
        (λ i. expr_of erased (node_context p node input) head.to >>= (λ w. pure (is_inside head.inclusive i (wrap Int w))))
        (read_here p node below head.index.number 1 head.index.at)
        (λ i h. carried_last (at_main p node) (FitsType (type_of p head.to)) Anything (reads_of head.to here) (expr_of (traced p) (serial_cx p input) head.to) (expr_of erased (node_context p node input) head.to)
        (λ w. pure (is_inside head.inclusive i (wrap Int w))) (λ w. pure (is_inside head.inclusive i (wrap Int w)))
        (parts.expressions (at_main p node) (main_setting p node global below) (parts.all_stand p node below) input head.to to fine_to)
        (λ w l. carried_pure (at_main p node) Anything (is_inside head.inclusive i (wrap Int w)) tt))

    steps : (node : ℕ) → node < node_count p
        → Carried (at_main p node) IsNext (sequence (look p head.index.number head.index.at) (mark p head.index.number head.index.at)) (step_up head) (step_up head)
    steps node below =
        carried_on (at_main p node) (FitsType (scalar_type p head.index.number)) IsNext (look p head.index.number head.index.at) (mark p head.index.number head.index.at) (scalar head.index.number) (scalar head.index.number)
        (λ i. set_scalar head.index.number (wrap Int (i +ℤ pos head.step)) >>= (λ u. pure Next)) (λ i. set_scalar head.index.number (wrap Int (i +ℤ pos head.step)) >>= (λ u. pure Next))
        (read_here p node below head.index.number 1 head.index.at)
        (λ i h. carried_last (at_main p node) Anything IsNext (mark p head.index.number head.index.at)
        (set_scalar head.index.number (wrap Int (i +ℤ pos head.step))) (set_scalar head.index.number (wrap Int (i +ℤ pos head.step))) (λ u. pure Next) (λ u. pure Next)
        (set_marked p node head.index.number (wrap Int (i +ℤ pos head.step)) (index_fits (i +ℤ pos head.step)))
        (λ u l. carried_pure (at_main p node) IsNext Next refl))

    -- a counted loop, where its body is followed and leaves the index
    counted_goes : (b : Plan Event) (body : Run Notes Flow) (body' : RunIn Nodes Flow)
        → (kept : (node : ℕ) → node < node_count p → (way : List Event) → Path b way → (stale : ℕ → Bool) → stale (scalar_object head.index.number) ≡ false → left node way stale (scalar_object head.index.number) ≡ false)
        → AllFollow p IsNext b body body'
        → AllFollow p IsNext (counted_plan p head.index.number head.index.at (reads_of head.from here) (reads_of head.to here) b (idle head.from) (idle head.to) kept)
        (counted (traced p) (serial_cx p input) head body)
        (all_do 0 (λ node. entering erased (node_context p node input) head)
        >>= (λ n. turns n (all_do false (λ node. inside erased (node_context p node input) head)) (then_run body' (all_do Next (λ node. step_up head)))))
    counted_goes b body body' kept c =
        all_counted p head.index.number head.index.at (reads_of head.from here) (reads_of head.to here) b (idle head.from) (idle head.to) kept
        (entering (traced p) (serial_cx p input) head) (all_do 0 (λ node. entering erased (node_context p node input) head))
        (inside (traced p) (serial_cx p input) head) (all_do false (λ node. inside erased (node_context p node input) head))
        body (step_up head) body' (all_do Next (λ node. step_up head))
        (all_alone p Anything (sequence (reads_of head.from here) (sequence (mark p head.index.number head.index.at) (reads_of head.to here))) 0
        (entering (traced p) (serial_cx p input) head) (λ node. entering erased (node_context p node input) head) some enters)
        (all_alone p Anything (sequence (look p head.index.number head.index.at) (reads_of head.to here)) false
        (inside (traced p) (serial_cx p input) head) (λ node. inside erased (node_context p node input) head) some tests)
        c
        (all_alone p IsNext (sequence (look p head.index.number head.index.at) (mark p head.index.number head.index.at)) Next (step_up head) (λ node. step_up head) some steps)

  at_counted : (head : LoopHead) (x : Stmt) → Followed x → Followed (stmt.Counted head x)
  at_counted head x c quiet fits right =
      let f : Plan Event = reads_of head.from here in
      let t : Plan Event = reads_of head.to here in
      let b : Plan Event = events_of x here in
      let m : Plan Event = assigned here head.index.number in
      let turn : Plan Event = sequence t (sequence b (sequence m skip)) in
      let plan : Plan Event = sequence skip (sequence f (sequence m (sequence (loop turn) (sequence t skip)))) in
      let own = parts.counted_parts p head x fits in
      let fine : NothingWrong plan = subst NothingWrong (events_counted head x here) right in
      let inner = right_back skip (sequence f (sequence m (sequence (loop turn) (sequence t skip)))) fine in
      let looped = right_back m (sequence (loop turn) (sequence t skip)) (right_back f (sequence m (sequence (loop turn) (sequence t skip))) inner) in
      let last = right_front t skip (right_back (loop turn) (sequence t skip) looped) in
      let body_fine = right_front b (sequence m skip) (right_back t (sequence b (sequence m skip)) (right_turn turn (right_front (loop turn) (sequence t skip) looped))) in
      let kept : (node : ℕ) → node < node_count p → (way : List Event) → Path b way → (stale : ℕ → Bool) → stale (scalar_object head.index.number) ≡ false → left node way stale (scalar_object head.index.number) ≡ false
      = λ node below way w stale e. parts.unwritten_stay here node head.index.number x (index_unwritten p head x own.counted) way w stale e in
      let int : scalar_type p head.index.number ≡ Int = index_int p head x own.counted in
      let run : RunIn Nodes Flow = all_do 0 (λ node. entering erased (node_context p node input) head)
      >>= (λ n. turns n (all_do false (λ node. inside erased (node_context p node input) head)) (then_run (lockstep p input x).all (all_do Next (λ node. step_up head)))) in
      subst (λ h. AllFollow p IsNext (events_of (stmt.Counted head x) here) (noting p input (stmt.Counted head x)) h)
      (ap (λ (u : Both). u.all) (sym (rolls.at_counted Both TaskOf (both_step p input) task_both head x)))
      (subst (λ h. AllFollow p IsNext (events_of (stmt.Counted head x) here) h run) (sym (stmt_counted (traced p) (serial_cx p input) head x))
      (subst (λ a. AllFollow p IsNext a (counted (traced p) (serial_cx p input) head (noting p input x)) run) (sym (events_counted head x here))
      (all_paths p IsNext (counted_plan p head.index.number head.index.at f t b (idle head.from) (idle head.to) kept) plan (counted (traced p) (serial_cx p input) head (noting p input x)) run
      (λ way w. way_skipped (sequence f (sequence m (sequence (loop turn) (sequence t skip)))) way
      (way_last f (sequence m (turn_plan p t (sequence b m))) (sequence m (sequence (loop turn) (sequence t skip)))
      (way_last m (turn_plan p t (sequence b m)) (sequence (loop turn) (sequence t skip))
      (λ w2 x2. way_first (loop (sequence t (sequence b m))) (loop turn) (sequence t skip)
      (way_loop (sequence t (sequence b m)) turn (way_last t (sequence b m) (sequence b (sequence m skip)) (way_last b m (sequence m skip) (way_skip m)))) w2
      (way_last (loop (sequence t (sequence b m))) t (sequence t skip) (way_skip t) w2 x2))) way w))
      (counted_goes head int own.from own.to (right_front f (sequence m (sequence (loop turn) (sequence t skip))) inner) last b (noting p input x) (lockstep p input x).all kept
      (c (every_counted (λ z. is_return z ≡ false) head x quiet) own.inner body_fine)))))

  -- ---- directives

  at_loop : (d : LoopDirective) (x : Stmt) → Followed (stmt.Loop d x)
  at_loop d x quiet fits right =
      subst (λ h. AllFollow p IsNext (events_of (stmt.Loop d x) here) (noting p input (stmt.Loop d x)) h)
      (ap (λ (u : Both). u.all) (sym (rolls.at_loop Both TaskOf (both_step p input) task_both d x)))
      (subst (λ h. AllFollow p IsNext (events_of (stmt.Loop d x) here) h (loop_all p d (lockstep p input x).at)) (sym (stmt_loop (traced p) (serial_cx p input) d x))
      (subst (λ a. AllFollow p IsNext a ((traced p).loop d (nest (traced p) (serial_cx p input) d.nest) (noting p input x)) (loop_all p d (lockstep p input x).at)) (sym (events_loop d x here))
      (parts.loops p global input d x fits (every_loop (λ z. is_return z ≡ false) d x quiet) (subst NothingWrong (events_loop d x here) right))))

  abbrev folded_task : Task → TaskOf
  folded_task = fold-Task Both TaskOf (both_step p input) task_both

  tasks_folded : (all : List Task) → map folded_task all ≡ map (node_task p input) all
  tasks_folded [] = refl
  tasks_folded (t ∷ ts) =
      ap (λ x. x ∷ map folded_task ts) (fold-roll-Task Both TaskOf (both_step p input) task_both (record { nodes = t.nodes; body = t.body; at = t.at }))
      ∙ ap (λ l. node_task p input t ∷ l) (tasks_folded ts)

  abbrev folded_run : Task → TaskRun Notes
  folded_run = fold-Task (Run Notes Flow) (TaskRun Notes) (meaning.stmt_step (traced p) (serial_cx p input)) meaning.task_step

  runs_folded : (all : List Task) → map folded_run all ≡ map (noted_task p input) all
  runs_folded [] = refl
  runs_folded (t ∷ ts) =
      ap (λ x. x ∷ map folded_run ts) (fold-roll-Task (Run Notes Flow) (TaskRun Notes) (meaning.stmt_step (traced p) (serial_cx p input)) meaning.task_step (record { nodes = t.nodes; body = t.body; at = t.at }))
      ∙ ap (λ l. noted_task p input t ∷ l) (runs_folded ts)

  at_tasks : (all : List Task) (at : Place) → Followed (stmt.Tasks all at)
  at_tasks all at quiet fits right =
      subst (λ h. AllFollow p IsNext (events_of (stmt.Tasks all at) here) (noting p input (stmt.Tasks all at)) h)
      (ap (tasks_all p) (sym (tasks_folded all)) ∙ ap (λ (u : Both). u.all) (sym (rolls.at_tasks Both TaskOf (both_step p input) task_both all at)))
      (subst (λ h. AllFollow p IsNext (events_of (stmt.Tasks all at) here) h (tasks_all p (map (node_task p input) all)))
      (ap (traced p).tasks (sym (runs_folded all)) ∙ sym (rolls.at_tasks (Run Notes Flow) (TaskRun Notes) (meaning.stmt_step (traced p) (serial_cx p input)) meaning.task_step all at))
      (subst (λ a. AllFollow p IsNext a ((traced p).tasks (map (noted_task p input) all)) (tasks_all p (map (node_task p input) all))) (sym (events_tasks all at here))
      (parts.tasks p global input all at fits (every_tasks (λ z. is_return z ≡ false) all at quiet) (subst NothingWrong (events_tasks all at here) right))))

  -- ---- blocks

  abbrev block_plan : List Stmt → Plan Event
  block_plan all = in_order (map (λ x. events_of x here) all)

  all_followed : (all : List Stmt) → AllByRecursion Followed all → AllByRecursion NoReturn all → AllByRecursion (PartFits p) all → NothingWrong (block_plan all)
      → AllByRecursion (FollowsAs IsNext) all
  all_followed [] c quiet fits right = tt
  all_followed (x ∷ xs) c quiet fits right = (
    c.0 quiet.0 fits.0 (right_front (events_of x here) (block_plan xs) right),
    all_followed xs c.1 quiet.1 fits.1 (right_back (events_of x here) (block_plan xs) right),
  )

  alls : (xs : List Stmt) → map (λ (u : Both). u.all) (map (lockstep p input) xs) ≡ map (λ x. (lockstep p input x).all) xs
  alls [] = refl
  alls (x ∷ xs) = ap (λ l. (lockstep p input x).all ∷ l) (alls xs)

  -- a block of statements, as its statements are followed
  pub of_block : (V : Flow → Type 0) (all : List Stmt) → AllFollow p V (block_plan all) (block (map (noting p input) all)) (block (map (λ x. (lockstep p input x).all) all))
      → FollowsAs V (stmt.Block all)
  of_block V all c =
      subst (λ h. AllFollow p V (events_of (stmt.Block all) here) (noting p input (stmt.Block all)) h)
      (ap block (sym (alls all)) ∙ ap (λ (u : Both). u.all) (sym (rolls.at_block Both TaskOf (both_step p input) task_both all)))
      (subst (λ h. AllFollow p V (events_of (stmt.Block all) here) h (block (map (λ x. (lockstep p input x).all) all))) (sym (stmt_block (traced p) (serial_cx p input) all))
      (subst (λ a. AllFollow p V a (block (map (noting p input) all)) (block (map (λ x. (lockstep p input x).all) all))) (sym (events_block all here)) c))

  at_block : (all : List Stmt) → AllByRecursion Followed all → Followed (stmt.Block all)
  at_block all c quiet fits right = of_block IsNext all
      (all_block p (λ x. events_of x here) (noting p input) (λ x. (lockstep p input x).all) all
      (all_followed all c (every_block (λ z. is_return z ≡ false) all quiet) (parts.block_parts p all fits) (subst NothingWrong (events_block all here) right)))

  -- ---- all statements

  module _ {C D : Type 0} (x : C → Stmt) (t : D → Task) (h : (c : C) → Followed (x c)) where
    all_of : (cs : List C) → AllByRecursion Followed (map x cs)
    all_of [] = tt
    all_of (c ∷ cs) = (h c, all_of cs)

    at_form : (y : Stmt-F C D) → Followed (roll-Stmt (map-Stmt C D Stmt Task x t y))
    at_form (Stmt-F.Plain q) = subst Followed (sym (stmt.rolls-Plain q)) (at_plain q)
    at_form (Stmt-F.Block all) = subst Followed (sym (stmt.rolls-Block (map x all))) (at_block (map x all) (all_of all))
    at_form (Stmt-F.If e a b) = subst Followed (sym (stmt.rolls-If e (x a) (x b))) (at_if e (x a) (x b) (h a) (h b))
    at_form (Stmt-F.While e a at) = subst Followed (sym (stmt.rolls-While e (x a) at)) (at_while e (x a) at (h a))
    at_form (Stmt-F.Counted head a) = subst Followed (sym (stmt.rolls-Counted head (x a))) (at_counted head (x a) (h a))
    at_form (Stmt-F.Loop d a) = subst Followed (sym (stmt.rolls-Loop d (x a))) (at_loop d (x a))
    at_form (Stmt-F.Tasks all at) = subst Followed (sym (stmt.rolls-Tasks (map t all) at)) (at_tasks (map t all) at)

  pub followed : (x : Stmt) → Followed x
  followed = ind-Stmt Followed (λ t. Unit {0})
      (λ x y is. subst (λ z. Followed (roll-Stmt z)) is (at_form (λ c. c.0) (λ c. c.0) (λ c. c.1) y))
      (λ x y is. tt)
