-- Every statement of a task or a loop directive at a node that executes it.
use Rattle.std.proofs.Common.{◌≡◌, ℕ, Bool, true, false, true≢false, not, List, [], ◌∷◌, map, Option, Some, None, refl, sym, subst, ap, ◌∙◌}
use Rattle.std.specs.List.{AllByRecursion}
use Rattle.xmp_base.specs.declared.place.Place.{Place}
use Rattle.xmp_num.specs.Arithmetic.{FitsType}
use Rattle.xmp_prog.specs.declared.expressions.Expr.{Expr}
use Rattle.xmp_prog.specs.declared.statements.LoopDirective.{LoopDirective}
use Rattle.xmp_prog.specs.declared.statements.LoopHead.{LoopHead}
use Rattle.xmp_prog.specs.declared.statements.Plain.{Plain}
use Rattle.xmp_prog.specs.declared.statements.Plain.TheVariants as plain
use Rattle.xmp_prog.specs.declared.statements.Stmt.{Stmt, map-Stmt}
use Rattle.xmp_prog.specs.declared.statements.Stmt.TheOpen.{Stmt-F}
use Rattle.xmp_prog.specs.declared.statements.Stmt.TheVariants as stmt
use Rattle.xmp_prog.specs.declared.statements.Stmt.TheFolds.{ind-Stmt}
use Rattle.xmp_prog.specs.declared.statements.Stmt.TheViews.{roll-Stmt}
use Rattle.xmp_prog.specs.declared.statements.Task.{Task}
use Rattle.xmp_prog.specs.Terms.{terms_of, type_of}
use Rattle.xmp_prog.specs.Tests.{is_return}
use Rattle.xmp_prog.proofs.Rolls as rolls
use Rattle.xmp_paths.specs.declared.event.Event.{Event}
use Rattle.xmp_paths.specs.declared.event.Event.TheVariants.{Wrong}
use Rattle.xmp_paths.specs.NodeSets.{has}
use Rattle.xmp_paths.specs.Plans.{Plan, Stands, skip, sequence, branch, loop, Path, in_order}
use Rattle.xmp_paths.specs.Safe.{NothingWrong}
use Rattle.xmp_loops.specs.Roles.{scalars_of}
use Rattle.xmp_flow.specs.Setting.{is_reduced, wrong_where, assigned, in_task}
use Rattle.xmp_flow.specs.Reads.{reads_of}
use Rattle.xmp_flow.specs.PlainEvents.{in_form, reflected, cast, side_events, source_events, moved, plain_events}
use Rattle.xmp_flow.specs.Statements.{events_of, if_form}
use Rattle.xmp_flow.specs.LoopEvents.{at_bounds, nest_events, reduction_events, iteration, ends}
use Rattle.xmp_flow.proofs.FormLaws.{events_plain, events_block, events_if, events_while, events_counted, events_loop, events_tasks}
use Rattle.xmp_meaning.specs.declared.ends.Flow.{Flow}
use Rattle.xmp_meaning.specs.Runs.{Run, ◌>>=◌, pure}
use Rattle.xmp_meaning.specs.Blocks.{block, choose}
use Rattle.xmp_meaning.specs.Handlers.{erased}
use Rattle.xmp_meaning.specs.Expressions.{expr_of, holds, is_zero}
use Rattle.xmp_meaning.specs.Loops.{counted}
use Rattle.xmp_meaning.specs.Statements.{plain_of}
use Rattle.xmp_meaning.specs.Exchanges.{Notes, traced}
use Rattle.xmp_meaning.proofs.Forms.{stmt_plain, stmt_block, stmt_if, stmt_counted}
use Rattle.xmp_meaning_laws.specs.Laws.{is_plain}
use Rattle.xmp_nodes.specs.Tasks.{TaskOf}
use Rattle.xmp_nodes.specs.Lockstep.{Both, both_step, task_both, lockstep}
use Rattle.xmp_nodes.proofs.Agrees.{Stand, Carried, Anything, IsNext}
use Rattle.xmp_nodes.proofs.Standing.{TermStands, PartFits, NoReturn, IsSetting, WritesFit}
use Rattle.xmp_nodes.proofs.Leaves.{noting, GivesNext, StatementsCarry}
use Rattle.xmp_nodes.proofs.Below.{every_plain, every_block, every_if, every_counted}
use Rattle.xmp_nodes.proofs.Follow.{right_front, right_back, right_first, right_second, right_turn, carried_pure, carried_weaker, carried_paths, carried_on, carried_last, carried_choose, carried_block}
use Rattle.xmp_nodes.proofs.InStep.{way_first, way_last}
use Rattle.xmp_nodes.proofs.CountedInStep.{way_skip, way_loop}
use Rattle.xmp_nodes.proofs.Lockstep.{index_int, index_unwritten}
use Rattle.xmp_nodes.proofs.CountedCarried.{writes_first, writes_second, writes_counted, index_changed, writes_block, Leaves, scx, ncx, loop_along}

module _ (p : Leaves) (a : Stand) (is : IsSetting a) (there : has a.set.nodes a.node ≡ true) (within : a.set.inside ≡ true) (input : List ℕ) where
  abbrev serial : Stmt → Run Notes Flow
  serial x = noting a.program input x

  abbrev alone : Stmt → Run (Unit {0}) Flow
  alone x = (lockstep a.program input x).at a.node

  abbrev plan : Stmt → Plan Event
  plan x = events_of x a.set

  abbrev pub CarriedHere : Stmt → Type 0
  CarriedHere x = PartFits a.program x → WritesFit a x → NoReturn x → NothingWrong (plan x) → Carried a IsNext (plan x) (serial x) (alone x)

  -- a directive inside is wrong
  -- the first part of a plan in which nothing is wrong
  first_right : (q : Plan Event) (qs : List (Plan Event)) → NothingWrong (in_order (q ∷ qs)) → NothingWrong q
  first_right q qs h = right_front q (in_order qs) h

  wrong_inside : {Q : Type 0} (at : Place) → NothingWrong (wrong_where a.set.inside 10 at) → Q
  wrong_inside at right = absurd (right 10 at (subst (λ b. Stands (wrong_where b 10 at) (Wrong 10 at)) (sym within) refl))

  wrong_loop : {Q : Type 0} (at : Place) → NothingWrong (wrong_where a.set.inside 9 at) → Q
  wrong_loop at right = absurd (right 9 at (subst (λ b. Stands (wrong_where b 9 at) (Wrong 9 at)) (sym within) refl))

  -- ---- plain statements

  plain_here : (q : Plain) → PartFits a.program (stmt.Plain q) → NothingWrong (plain_events q a.set) → is_plain q ≡ true
  plain_here (plain.Declare slot value at) fits right = refl
  plain_here (plain.Set to compound value) fits right = refl
  plain_here (plain.Return value) fits right = refl
  plain_here (plain.Call function arguments at) fits right = refl
  plain_here (plain.Print format arguments at) fits right = refl
  plain_here (plain.Scan to at) fits right = refl
  plain_here (plain.Sync status at) fits right = absurd (true≢false (sym (p.plain_parts a.program (plain.Sync status at) fits).stands.sync))
  plain_here (plain.Reflect arrays at) fits right = wrong_inside at (first_right (wrong_where a.set.inside 10 at) (map (reflected a.set) arrays) right)
  plain_here (plain.Barrier at) fits right = wrong_inside at right
  plain_here (plain.Cast variables from at) fits right = wrong_inside at (first_right (wrong_where a.set.inside 10 at) (map (cast a.set from) variables) right)
  plain_here (plain.Gmove target source at) fits right = wrong_inside at (first_right (wrong_where a.set.inside 10 at)
      (side_events a.set target ∷ side_events a.set source ∷ source_events a.set source ∷ moved a.set target ∷ []) right)

  at_plain : (q : Plain) → CarriedHere (stmt.Plain q)
  at_plain q fits writes quiet right =
      let fine : NothingWrong (plain_events q a.set) = subst NothingWrong (events_plain q a.set) right in
      subst (λ g. Carried a IsNext (plan (stmt.Plain q)) (serial (stmt.Plain q)) g)
      (ap (λ (b : Both). b.at a.node) (sym (rolls.at_plain Both TaskOf (both_step a.program input) task_both q)))
      (subst (λ f. Carried a IsNext (plan (stmt.Plain q)) f (plain_of erased (ncx p a is there input) q)) (sym (stmt_plain (traced a.program) (scx p a is there input) q))
      (subst (λ e. Carried a IsNext e (plain_of (traced a.program) (scx p a is there input) q) (plain_of erased (ncx p a is there input) q)) (sym (events_plain q a.set))
      (carried_weaker a (GivesNext q) IsNext (plain_events q a.set) (plain_of (traced a.program) (scx p a is there input) q) (plain_of erased (ncx p a is there input) q)
      (λ v h. h (every_plain (λ y. is_return y ≡ false) q quiet)) (p.plains a is there input q (plain_here q fits fine) fits writes fine))))

  -- ---- choices

  condition : (e : Expr) → AllByRecursion (TermStands a.program) (terms_of a.program e) → NothingWrong (reads_of e a.set)
      → Carried a Anything (reads_of e a.set) (holds (expr_of (traced a.program) (scx p a is there input) e)) (holds (expr_of erased (ncx p a is there input) e))
  condition e fits right = carried_last a (FitsType (type_of a.program e)) Anything (reads_of e a.set) (expr_of (traced a.program) (scx p a is there input) e) (expr_of erased (ncx p a is there input) e)
      (λ v. pure (not (is_zero v))) (λ v. pure (not (is_zero v))) (p.expressions a is there input e fits right) (λ v h. carried_pure a Anything (not (is_zero v)) tt)

  if_plan : (e : Expr) (x y : Stmt) → Plan Event
  if_plan e x y = in_order (reads_of e a.set ∷ branch (plan x) (plan y) ∷ [])

  abbrev serial_if : Expr → Stmt → Stmt → Run Notes Flow
  serial_if e x y = holds (expr_of (traced a.program) (scx p a is there input) e) >>= (λ v. choose v (serial x) (serial y))

  abbrev alone_if : Expr → Stmt → Stmt → Run (Unit {0}) Flow
  alone_if e x y = holds (expr_of erased (ncx p a is there input) e) >>= (λ v. choose v (alone x) (alone y))

  of_form : (e : Expr) (x y : Stmt) → CarriedHere x → CarriedHere y → PartFits a.program (stmt.If e x y) → WritesFit a (stmt.If e x y) → NoReturn (stmt.If e x y)
      → (o : Option (List Expr)) → if_form a.set e x y ≡ o
      → NothingWrong (in_form a.set (in_order (reads_of e a.set ∷ branch (plan x) (plan y) ∷ [])) o)
      → Carried a IsNext (in_form a.set (in_order (reads_of e a.set ∷ branch (plan x) (plan y) ∷ [])) o) (serial_if e x y) (alone_if e x y)
  of_form e x y c d fits writes quiet None f right =
      let own = p.if_parts a.program e x y fits in
      let none = every_if (λ z. is_return z ≡ false) e x y quiet in
      let both = right_front (branch (plan x) (plan y)) skip (right_back (reads_of e a.set) (sequence (branch (plan x) (plan y)) skip) right) in
      carried_paths a IsNext (sequence (reads_of e a.set) (branch (plan x) (plan y))) (sequence (reads_of e a.set) (sequence (branch (plan x) (plan y)) skip)) (serial_if e x y) (alone_if e x y)
      (way_last (reads_of e a.set) (branch (plan x) (plan y)) (sequence (branch (plan x) (plan y)) skip) (way_skip (branch (plan x) (plan y))))
      (carried_on a Anything IsNext (reads_of e a.set) (branch (plan x) (plan y)) (holds (expr_of (traced a.program) (scx p a is there input) e)) (holds (expr_of erased (ncx p a is there input) e))
      (λ v. choose v (serial x) (serial y)) (λ v. choose v (alone x) (alone y))
      (condition e own.test (right_front (reads_of e a.set) (sequence (branch (plan x) (plan y)) skip) right))
      (λ v u. carried_choose a IsNext (plan x) (plan y) (serial x) (serial y) (alone x) (alone y) v
      (c own.first (writes_first a e x y writes) none.0 (right_first (plan x) (plan y) both))
      (d own.second (writes_second a e x y writes) none.1 (right_second (plan x) (plan y) both))))
  of_form e x y c d fits writes quiet (Some es) f right =
      let own = p.if_parts a.program e x y fits in
      p.if_forms a is there input e x y es f own.test own.first own.second (writes_first a e x y writes) right

  at_if : (e : Expr) (x y : Stmt) → CarriedHere x → CarriedHere y → CarriedHere (stmt.If e x y)
  at_if e x y c d fits writes quiet right =
      subst (λ g. Carried a IsNext (plan (stmt.If e x y)) (serial (stmt.If e x y)) g)
      (ap (λ (b : Both). b.at a.node) (sym (rolls.at_if Both TaskOf (both_step a.program input) task_both e x y)))
      (subst (λ f. Carried a IsNext (plan (stmt.If e x y)) f (alone_if e x y)) (sym (stmt_if (traced a.program) (scx p a is there input) e x y))
      (subst (λ q. Carried a IsNext q (serial_if e x y) (alone_if e x y)) (sym (events_if e x y a.set))
      (of_form e x y c d fits writes quiet (if_form a.set e x y) refl (subst NothingWrong (events_if e x y a.set) right))))

  -- ---- counted loops

  at_counted : (head : LoopHead) (x : Stmt) → CarriedHere x → CarriedHere (stmt.Counted head x)
  at_counted head x c fits writes quiet right =
      let f : Plan Event = reads_of head.from a.set in
      let t : Plan Event = reads_of head.to a.set in
      let b : Plan Event = plan x in
      let m : Plan Event = assigned a.set head.index.number in
      let one : Plan Event = sequence t (sequence b (sequence m skip)) in
      let w : Plan Event = wrong_where (is_reduced (a.set.roles head.index.number)) 5 head.index.at in
      let rest : Plan Event = sequence f (sequence m (sequence (loop one) (sequence t skip))) in
      let own = p.counted_parts a.program head x fits in
      let fine : NothingWrong (sequence w rest) = subst NothingWrong (events_counted head x a.set) right in
      let unreduced : is_reduced (a.set.roles head.index.number) ≡ false = no_wrong (is_reduced (a.set.roles head.index.number)) head.index.at (right_front w rest fine) in
      let inner = right_back w rest fine in
      let looped = right_back m (sequence (loop one) (sequence t skip)) (right_back f (sequence m (sequence (loop one) (sequence t skip))) inner) in
      let last = right_front t skip (right_back (loop one) (sequence t skip) looped) in
      let body_fine = right_front b (sequence m skip) (right_back t (sequence b (sequence m skip)) (right_turn one (right_front (loop one) (sequence t skip) looped))) in
      let carried : Carried a IsNext b (serial x) (alone x) = c own.inner (writes_counted a head x writes) (every_counted (λ z. is_return z ≡ false) head x quiet) body_fine in
      subst (λ g. Carried a IsNext (plan (stmt.Counted head x)) (serial (stmt.Counted head x)) g)
      (ap (λ (u : Both). u.at a.node) (sym (rolls.at_counted Both TaskOf (both_step a.program input) task_both head x)))
      (subst (λ g. Carried a IsNext (plan (stmt.Counted head x)) g (counted erased (ncx p a is there input) head (alone x))) (sym (stmt_counted (traced a.program) (scx p a is there input) head x))
      (subst (λ q. Carried a IsNext q (counted (traced a.program) (scx p a is there input) head (serial x)) (counted erased (ncx p a is there input) head (alone x))) (sym (events_counted head x a.set))
      (carried_paths a IsNext (sequence f (sequence m (sequence (loop (sequence t (sequence b m))) t))) (sequence w rest)
      (counted (traced a.program) (scx p a is there input) head (serial x)) (counted erased (ncx p a is there input) head (alone x))
      (λ way v. record {
        front = [];
        back = way;
        whole = refl;
        in_front = subst (λ r. Path (wrong_where r 5 head.index.at) []) (sym unreduced) refl;
        in_back =
            way_last f (sequence m (sequence (loop (sequence t (sequence b m))) t)) (sequence m (sequence (loop one) (sequence t skip)))
            (way_last m (sequence (loop (sequence t (sequence b m))) t) (sequence (loop one) (sequence t skip))
            (λ w2 x2. way_first (loop (sequence t (sequence b m))) (loop one) (sequence t skip)
            (way_loop (sequence t (sequence b m)) one (way_last t (sequence b m) (sequence b (sequence m skip)) (way_last b m (sequence m skip) (way_skip m)))) w2
            (way_last (loop (sequence t (sequence b m))) t (sequence t skip) (way_skip t) w2 x2))) way v;
      })
      (loop_along p a is there input head (index_int a.program head x own.counted) unreduced (index_changed a head x writes) own.from own.to
      (right_front f (sequence m (sequence (loop one) (sequence t skip))) inner) last b (serial x) (alone x) carried
      (λ way v stale e. p.unwritten_stay a.set a.node head.index.number x (index_unwritten a.program head x own.counted) way v stale e)))))
    where
      no_wrong : (r : Bool) (at : Place) → NothingWrong (wrong_where r 5 at) → r ≡ false
      no_wrong true at h = absurd (h 5 at refl)
      no_wrong false at h = refl

  -- ---- what may not stand inside

  at_while : (e : Expr) (x : Stmt) (at : Place) → CarriedHere (stmt.While e x at)
  at_while e x at fits writes quiet right = wrong_loop at (first_right (wrong_where a.set.inside 9 at)
      (loop (in_order (reads_of e a.set ∷ plan x ∷ [])) ∷ reads_of e a.set ∷ []) (subst NothingWrong (events_while e x at a.set) right))

  at_loop : (d : LoopDirective) (x : Stmt) → CarriedHere (stmt.Loop d x)
  at_loop d x fits writes quiet right = wrong_inside d.at (first_right (wrong_where a.set.inside 10 d.at)
      (in_order (nest_events (at_bounds d x a.set) [] (scalars_of d x) d.nest) ∷ in_order (reduction_events a.set [] d.reductions)
      ∷ loop (iteration a.set d x (events_of x)) ∷ in_order (ends a.set d x) ∷ []) (subst NothingWrong (events_loop d x a.set) right))

  at_tasks : (all : List Task) (at : Place) → CarriedHere (stmt.Tasks all at)
  at_tasks all at fits writes quiet right = wrong_inside at (first_right (wrong_where a.set.inside 10 at)
      (map (λ t. events_of t.body (in_task a.set t.nodes)) all) (subst NothingWrong (events_tasks all at a.set) right))

  -- ---- blocks

  all_carried : (all : List Stmt) → AllByRecursion CarriedHere all → AllByRecursion (PartFits a.program) all → AllByRecursion (WritesFit a) all → AllByRecursion NoReturn all
      → NothingWrong (in_order (map plan all)) → AllByRecursion (λ x. Carried a IsNext (plan x) (serial x) (alone x)) all
  all_carried [] c fits writes quiet right = tt
  all_carried (x ∷ xs) c fits writes quiet right = (
    c.0 fits.0 writes.0 quiet.0 (right_front (plan x) (in_order (map plan xs)) right),
    all_carried xs c.1 fits.1 writes.1 quiet.1 (right_back (plan x) (in_order (map plan xs)) right),
  )

  ats : (xs : List Stmt) → map (λ (u : Both). u.at a.node) (map (lockstep a.program input) xs) ≡ map alone xs
  ats [] = refl
  ats (x ∷ xs) = ap (λ l. alone x ∷ l) (ats xs)

  at_block : (all : List Stmt) → AllByRecursion CarriedHere all → CarriedHere (stmt.Block all)
  at_block all c fits writes quiet right =
      subst (λ g. Carried a IsNext (plan (stmt.Block all)) (serial (stmt.Block all)) g)
      (ap block (sym (ats all)) ∙ ap (λ (u : Both). u.at a.node) (sym (rolls.at_block Both TaskOf (both_step a.program input) task_both all)))
      (subst (λ g. Carried a IsNext (plan (stmt.Block all)) g (block (map alone all))) (sym (stmt_block (traced a.program) (scx p a is there input) all))
      (subst (λ q. Carried a IsNext q (block (map serial all)) (block (map alone all))) (sym (events_block all a.set))
      (carried_block a plan serial alone all
      (all_carried all c (p.block_parts a.program all fits) (writes_block a all writes) (every_block (λ z. is_return z ≡ false) all quiet) (subst NothingWrong (events_block all a.set) right)))))

  -- ---- all statements

  module _ {C D : Type 0} (x : C → Stmt) (t : D → Task) (h : (c : C) → CarriedHere (x c)) where
    all_of : (cs : List C) → AllByRecursion CarriedHere (map x cs)
    all_of [] = tt
    all_of (c ∷ cs) = (h c, all_of cs)

    at_form : (y : Stmt-F C D) → CarriedHere (roll-Stmt (map-Stmt C D Stmt Task x t y))
    at_form (Stmt-F.Plain q) = subst CarriedHere (sym (stmt.rolls-Plain q)) (at_plain q)
    at_form (Stmt-F.Block all) = subst CarriedHere (sym (stmt.rolls-Block (map x all))) (at_block (map x all) (all_of all))
    at_form (Stmt-F.If e b c) = subst CarriedHere (sym (stmt.rolls-If e (x b) (x c))) (at_if e (x b) (x c) (h b) (h c))
    at_form (Stmt-F.While e b at) = subst CarriedHere (sym (stmt.rolls-While e (x b) at)) (at_while e (x b) at)
    at_form (Stmt-F.Counted head b) = subst CarriedHere (sym (stmt.rolls-Counted head (x b))) (at_counted head (x b) (h b))
    at_form (Stmt-F.Loop d b) = subst CarriedHere (sym (stmt.rolls-Loop d (x b))) (at_loop d (x b))
    at_form (Stmt-F.Tasks all at) = subst CarriedHere (sym (stmt.rolls-Tasks (map t all) at)) (at_tasks (map t all) at)

  pub carried_here : (x : Stmt) → CarriedHere x
  carried_here = ind-Stmt CarriedHere (λ t. Unit {0})
      (λ x y is. subst (λ z. CarriedHere (roll-Stmt z)) is (at_form (λ c. c.0) (λ c. c.0) (λ c. c.1) y))
      (λ x y is. tt)

pub statements_carry : Leaves → StatementsCarry
statements_carry p a is there within input x fits writes quiet right = carried_here p a is there within input x fits writes quiet right
