-- Every statement of a task at a node outside: the node is left as it was, and what is written is out of date there.
use Rattle.std.proofs.Common.{◌≡◌, ◌++◌, ⊎_elim, ℕ, Bool, true, false, true≢false, not, List, [], ◌∷◌, map, Option, Some, None, refl, sym, subst, ap, ◌∙◌, append_assoc, if◌then◌else◌}
use Rattle.std.specs.Prelude.{◌||◌, is_some, slice_get}
use Rattle.std.specs.List.{AllByRecursion}
use Rattle.xmp_base.specs.declared.place.Place.{Place}
use Rattle.xmp_prog.specs.declared.parts.Array.{Array}
use Rattle.xmp_prog.specs.declared.parts.Home.TheVariants as home
use Rattle.xmp_prog.specs.declared.expressions.Expr.{Expr}
use Rattle.xmp_prog.specs.declared.expressions.Access.{Access}
use Rattle.xmp_prog.specs.declared.statements.LoopDirective.{LoopDirective}
use Rattle.xmp_prog.specs.declared.statements.LoopHead.{LoopHead}
use Rattle.xmp_prog.specs.declared.statements.Target.TheVariants as target
use Rattle.xmp_prog.specs.declared.statements.Plain.{Plain}
use Rattle.xmp_prog.specs.declared.statements.Plain.TheVariants as plain
use Rattle.xmp_prog.specs.declared.statements.Stmt.{Stmt, map-Stmt, out-Stmt}
use Rattle.xmp_prog.specs.declared.statements.Stmt.TheOpen.{Stmt-F}
use Rattle.xmp_prog.specs.declared.statements.Stmt.TheVariants as stmt
use Rattle.xmp_prog.specs.declared.statements.Stmt.TheFolds.{ind-Stmt}
use Rattle.xmp_prog.specs.declared.statements.Stmt.TheViews.{roll-Stmt}
use Rattle.xmp_prog.specs.declared.statements.Task.{Task}
use Rattle.xmp_prog.specs.Terms.{terms_of, terms_of_access, typed}
use Rattle.xmp_prog.specs.Tests.{subscripts_fit, is_image, is_return}
use Rattle.xmp_prog.specs.Statements.{terms_of_plain}
use Rattle.xmp_paths.specs.declared.event.Event.{Event}
use Rattle.xmp_paths.specs.declared.event.Event.TheVariants.{Wrong}
use Rattle.xmp_paths.specs.NodeSets.{has}
use Rattle.xmp_paths.specs.Plans.{Plan, Stands, skip, sequence, branch, loop, Path, in_order}
use Rattle.xmp_paths.specs.Safe.{NothingWrong}
use Rattle.xmp_loops.specs.Objects.{array_object}
use Rattle.xmp_loops.specs.Roles.{scalars_of}
use Rattle.xmp_loops.specs.declared.role.Role.TheVariants.{Shared}
use Rattle.xmp_flow.specs.Setting.{is_first_alone, is_reduced, wrong_where, assigned, in_task}
use Rattle.xmp_flow.specs.Reads.{reads_of, subscript_reads}
use Rattle.xmp_flow.specs.Elements.{element_write}
use Rattle.xmp_flow.specs.PlainEvents.{old_element, in_form, reflected, cast, side_events, source_events, moved, plain_events}
use Rattle.xmp_flow.specs.Statements.{events_of, if_form, form_of_if}
use Rattle.xmp_loops.specs.Forms.{is_nothing, assigns}
use Rattle.xmp_flow.specs.LoopEvents.{at_bounds, nest_events, reduction_events, iteration, ends}
use Rattle.xmp_flow.proofs.FormLaws.{events_plain, events_block, events_if, events_while, events_counted, events_loop, events_tasks}
use Rattle.xmp_meaning.specs.declared.ends.Flow.{Flow}
use Rattle.xmp_meaning.specs.declared.ends.Flow.TheVariants.{Next, Returned}
use Rattle.xmp_meaning.specs.Declarations.{home_of, home_of_array}
use Rattle.xmp_meaning.specs.Runs.{State, Gave, Run, ◌>>=◌, state_of}
use Rattle.xmp_meaning.specs.Blocks.{block, choose}
use Rattle.xmp_meaning.specs.Context.{Context}
use Rattle.xmp_meaning.specs.Handlers.{erased}
use Rattle.xmp_meaning.specs.Expressions.{expr_of, holds}
use Rattle.xmp_meaning.specs.Loops.{counted}
use Rattle.xmp_meaning.specs.Statements.{stmt_of}
use Rattle.xmp_meaning.specs.Exchanges.{Notes, traced}
use Rattle.xmp_meaning.specs.Writes.{plain_arrays}
use Rattle.xmp_meaning.proofs.Forms.{stmt_plain, stmt_block, stmt_if, stmt_counted}
use Rattle.xmp_meaning_laws.specs.Laws.{is_plain}
use Rattle.xmp_meaning_laws.proofs.Conditions.{all_apart}
use Rattle.xmp_nodes.proofs.Agrees.{Stand, IsWhole, Anything, IsNext, Still, Skipped}
use Rattle.xmp_nodes.proofs.Standing.{TermStands, PartFits, NoReturn, IsSetting}
use Rattle.xmp_nodes.proofs.Leaves.{noting, StatementsSkip}
use Rattle.xmp_nodes.proofs.Below.{every_block, every_if, every_counted}
use Rattle.xmp_nodes.proofs.Follow.{right_front, right_back, right_first, right_second, right_turn, skipped_paths, skipped_on, skipped_choose, skipped_block}
use Rattle.xmp_nodes.proofs.InStep.{way_first, way_last}
use Rattle.xmp_nodes.proofs.CountedInStep.{way_skip, way_loop}
use Rattle.xmp_nodes.proofs.Lockstep.{index_int}
use Rattle.xmp_nodes.proofs.NodeExpressions.{access_terms}
use Rattle.xmp_nodes.proofs.CellNumbers.{not_image}
use Rattle.xmp_nodes.proofs.PackedRows.{some_nodes}
use Rattle.xmp_nodes.proofs.PartSplits.{plain_fits, blocks_fit, ifs_fit, counteds_fit}
use Rattle.xmp_nodes.proofs.SameRuns.{noted_plain}
use Rattle.xmp_nodes.proofs.BodiesGo.{statement_goes}
use Rattle.xmp_nodes.proofs.Turns.{GoesOn}
use Rattle.xmp_nodes.proofs.WholeStays.{whole_stays}
use Rattle.xmp_nodes.proofs.SkipMarks.{Marks, CopyMarks, keeps, marks_front, marks_back, marks_after, write_marks, wrong_fades}
use Rattle.xmp_nodes.proofs.SkipPlains.{still_by}
use Rattle.xmp_nodes.proofs.SkipSteps.{cx, shared, all_there, condition, loop_skipped}

right_after : (xs ys : List (Plan Event)) → NothingWrong (in_order (xs ++ ys)) → NothingWrong (in_order ys)
right_after [] ys h = h
right_after (x ∷ xs) ys h = right_after xs ys (right_back x (in_order (xs ++ ys)) h)

joined : (xs : List (Plan Event)) (w end : Plan Event) → (xs ++ w ∷ []) ++ end ∷ [] ≡ xs ++ w ∷ end ∷ []
joined xs w end = append_assoc xs (w ∷ []) (end ∷ [])

module _ (a : Stand) (is : IsSetting a) (out : has a.set.nodes a.node ≡ false) (within : a.set.inside ≡ true) (alone : a.set.over ≡ None) (silent : a.base ≡ None) (input : List ℕ) where
  abbrev here : Context
  here = cx a is out within alone silent input

  abbrev serial : Stmt → Run Notes Flow
  serial x = noting a.program input x

  abbrev plan : Stmt → Plan Event
  plan x = events_of x a.set

  abbrev pub SkippedHere : Stmt → Type 0
  SkippedHere x = PartFits a.program x → NoReturn x → NothingWrong (plan x) → Skipped a IsNext (plan x) (serial x)

  -- ---- elements that are written

  is_there : (b : Access) → AllByRecursion (TermStands a.program) (terms_of_access a.program b) → is_some (slice_get a.program.arrays b.array) ≡ true
  is_there b terms = of_array (slice_get a.program.arrays b.array)
      (subst (AllByRecursion (TermStands a.program)) (access_terms a.program b.array b.subscripts b.image b.at) terms).0.element
    where
      of_array : (o : Option Array) → subscripts_fit o (map (λ e. e.ty) (map (typed a.program) b.subscripts)) ≡ true → is_some o ≡ true
      of_array None h = absurd (true≢false (sym h))
      of_array (Some r) h = refl

  abbrev Writes : Plan Event → ℕ → Type 0
  Writes plan array = (home_of a.program array ≡ home.Copy) × Marks a.node (array_object array) plan

  written_is : (b : Access) → AllByRecursion (TermStands a.program) (terms_of_access a.program b) → NothingWrong (element_write a.set b.array b.subscripts b.at)
      → Writes (element_write a.set b.array b.subscripts b.at) b.array
  written_is b terms right =
      let m : CopyMarks a.node a.set out (all_there a is out within alone silent input) alone (shared a is out within alone silent input) (element_write a.set b.array b.subscripts b.at) b.array =
      write_marks a.node a.set out (all_there a is out within alone silent input) alone (shared a is out within alone silent input) b.array b.subscripts b.at (slice_get a.set.program.arrays b.array) refl
      (subst (λ p. is_some (slice_get p.arrays b.array) ≡ true) (sym is.program) (is_there b terms))
      (λ r e i. true≢false (sym (ap is_image (ap home_of_array (ap (λ p. slice_get p.arrays b.array) (sym is.program) ∙ e) ∙ i)) ∙ not_image a.program is.global b.array)) right in
      (subst (λ p. home_of p b.array ≡ home.Copy) is.program m.0, m.1)

  copies_of : (q : Plain) → is_plain q ≡ true → AllByRecursion (TermStands a.program) (terms_of_plain a.program q) → NothingWrong (plain_events q a.set)
      → AllByRecursion (Writes (plain_events q a.set)) (plain_arrays q)
  copies_of (plain.Declare slot value at) i terms right = tt
  copies_of (plain.Set (target.Scalar n place) c e) i terms right = tt
  copies_of (plain.Set (target.Cell b) c e) i terms right =
      let w : Plan Event = element_write a.set b.array b.subscripts b.at in
      let old : Plan Event = old_element a.set b c in
      let rs : Plan Event = reads_of e a.set in
      let both : _ = all_apart (TermStands a.program) (terms_of_access a.program b) (terms_of a.program e) terms in
      let last : NothingWrong (sequence old (sequence rs (sequence w skip))) = right_after (subscript_reads b a.set) (old ∷ rs ∷ w ∷ []) right in
      let m : Writes w b.array = written_is b both.0 (right_front w skip (right_back rs (sequence w skip) (right_back old (sequence rs (sequence w skip)) last))) in (
        (
          m.0,
          marks_after a.node (array_object b.array) (subscript_reads b a.set) (old ∷ rs ∷ w ∷ [])
              (marks_back a.node (array_object b.array) old (sequence rs (sequence w skip)) (marks_back a.node (array_object b.array) rs (sequence w skip)
              (marks_front a.node (array_object b.array) w skip m.1 (keeps a.node skip (λ x y. absurd y))))),
        ),
        tt,
      )
  copies_of (plain.Return e) i terms right = tt
  copies_of (plain.Call function es at) i terms right = tt
  copies_of (plain.Print format es at) i terms right = tt
  copies_of (plain.Scan (target.Scalar n place) at) i terms right = tt
  copies_of (plain.Scan (target.Cell b) at) i terms right =
      let w : Plan Event = element_write a.set b.array b.subscripts b.at in
      let test : Bool = is_some a.set.over || not (is_first_alone a.set) in
      let end : Plan Event = wrong_where test 8 at in
      let last : NothingWrong (sequence w (sequence end skip)) =
      right_after (subscript_reads b a.set) (w ∷ end ∷ []) (subst (λ l. NothingWrong (in_order l)) (joined (subscript_reads b a.set) w end) right) in
      let m : Writes w b.array = written_is b terms (right_front w (sequence end skip) last) in (
        (
          m.0,
          subst (λ l. Marks a.node (array_object b.array) (in_order l)) (sym (joined (subscript_reads b a.set) w end))
              (marks_after a.node (array_object b.array) (subscript_reads b a.set) (w ∷ end ∷ [])
              (marks_front a.node (array_object b.array) w (sequence end skip) m.1 (keeps a.node (sequence end skip) (λ x y. ⊎_elim (wrong_fades a.node test 8 at x) (λ z. absurd z) y)))),
        ),
        tt,
      )
  copies_of (plain.Sync status at) i terms right = tt
  copies_of (plain.Reflect arrays at) i terms right = tt
  copies_of (plain.Barrier at) i terms right = tt
  copies_of (plain.Cast variables from at) i terms right = tt
  copies_of (plain.Gmove to from at) i terms right = absurd (true≢false (sym i))

  -- ---- plain statements

  first_right : (q : Plan Event) (qs : List (Plan Event)) → NothingWrong (in_order (q ∷ qs)) → NothingWrong q
  first_right q qs h = right_front q (in_order qs) h

  wrong_inside : {Q : Type 0} (at : Place) → NothingWrong (wrong_where a.set.inside 10 at) → Q
  wrong_inside at right = absurd (right 10 at (subst (λ b. Stands (wrong_where b 10 at) (Wrong 10 at)) (sym within) refl))

  wrong_loop : {Q : Type 0} (at : Place) → NothingWrong (wrong_where a.set.inside 9 at) → Q
  wrong_loop at right = absurd (right 9 at (subst (λ b. Stands (wrong_where b 9 at) (Wrong 9 at)) (sym within) refl))

  plain_here : (q : Plain) → PartFits a.program (stmt.Plain q) → NothingWrong (plain_events q a.set) → is_plain q ≡ true
  plain_here (plain.Declare slot value at) fits right = refl
  plain_here (plain.Set to compound value) fits right = refl
  plain_here (plain.Return value) fits right = refl
  plain_here (plain.Call function arguments at) fits right = refl
  plain_here (plain.Print format arguments at) fits right = refl
  plain_here (plain.Scan to at) fits right = refl
  plain_here (plain.Sync status at) fits right = absurd (true≢false (sym (plain_fits a.program (plain.Sync status at) fits).stands.sync))
  plain_here (plain.Reflect arrays at) fits right = wrong_inside at (first_right (wrong_where a.set.inside 10 at) (map (reflected a.set) arrays) right)
  plain_here (plain.Barrier at) fits right = wrong_inside at right
  plain_here (plain.Cast variables from at) fits right = wrong_inside at (first_right (wrong_where a.set.inside 10 at) (map (cast a.set from) variables) right)
  plain_here (plain.Gmove target source at) fits right = wrong_inside at (first_right (wrong_where a.set.inside 10 at)
      (side_events a.set target ∷ side_events a.set source ∷ source_events a.set source ∷ moved a.set target ∷ []) right)

  goes_next : (v : Flow) (u : State Notes) → GoesOn (Gave v u) → v ≡ Next
  goes_next Next u h = refl
  goes_next (Returned v) u h = absurd h

  at_plain : (q : Plain) → SkippedHere (stmt.Plain q)
  at_plain q fits quiet right stale s n g =
      let fine : NothingWrong (plain_events q a.set) = subst NothingWrong (events_plain q a.set) right in
      let one : is_plain q ≡ true = plain_here q fits fine in
      let terms : AllByRecursion (TermStands a.program) (terms_of_plain a.program q) = (plain_fits a.program q fits).terms in
      let same : serial (stmt.Plain q) ≡ stmt_of erased here (stmt.Plain q) = stmt_plain (traced a.program) here q ∙ (noted_plain a.program here q one ∙ sym (stmt_plain erased here q)) in
      let whole : IsWhole a.program (state_of (stmt_of erased here (stmt.Plain q) s)) =
      subst (λ (f : Run Notes Flow). IsWhole a.program (state_of (f s))) same (whole_stays a.program input (stmt.Plain q) (some_nodes a.program) fits s g.whole) in
      subst (λ (f : Run Notes Flow). Still a IsNext (plan (stmt.Plain q)) stale s n (f s)) (sym same)
      (subst (λ e. Still a IsNext e stale s n (stmt_of erased here (stmt.Plain q) s)) (sym (events_plain q a.set))
      (still_by a is within out alone silent input q one terms fine (copies_of q one terms fine) stale s n g IsNext whole
      (λ v u e. goes_next v u (subst GoesOn e (statement_goes Notes here (stmt.Plain q) quiet s)))))

  -- ---- choices

  abbrev serial_if : Expr → Stmt → Stmt → Run Notes Flow
  serial_if e x y = holds (expr_of (traced a.program) here e) >>= (λ v. choose v (serial x) (serial y))

  -- no choice is the form of a reduction
  none_form : (e : Expr) (o : Option (ℕ × Expr)) → form_of_if a.set e o ≡ None
  none_form e o = ap (λ roles. form_of_if (record a.set { roles = roles }) e o) (λ j slot. shared a is out within alone silent input slot j) ∙ of_option o
    where
      of_option : (o : Option (ℕ × Expr)) → form_of_if (record a.set { roles = λ slot. Shared }) e o ≡ None
      of_option None = refl
      of_option (Some set) = refl

  if_plan : (e : Expr) (x y : Stmt) → in_form a.set (in_order (reads_of e a.set ∷ branch (plan x) (plan y) ∷ [])) (if_form a.set e x y) ≡ in_order (reads_of e a.set ∷ branch (plan x) (plan y) ∷ [])
  if_plan e x y = ap (in_form a.set (in_order (reads_of e a.set ∷ branch (plan x) (plan y) ∷ []))) (of_test (is_nothing (out-Stmt y)))
    where
      of_test : (b : Bool) → (if b then form_of_if a.set e (assigns (out-Stmt x)) else None) ≡ None
      of_test true = none_form e (assigns (out-Stmt x))
      of_test false = refl

  at_if : (e : Expr) (x y : Stmt) → SkippedHere x → SkippedHere y → SkippedHere (stmt.If e x y)
  at_if e x y c d fits quiet right =
      let own = ifs_fit a.program e x y fits in
      let none = every_if (λ z. is_return z ≡ false) e x y quiet in
      let r : Plan Event = reads_of e a.set in
      let k : Plan Event = branch (plan x) (plan y) in
      let same : plan (stmt.If e x y) ≡ sequence r (sequence k skip) = events_if e x y a.set ∙ if_plan e x y in
      let fine : NothingWrong (sequence r (sequence k skip)) = subst NothingWrong same right in
      let both = right_front k skip (right_back r (sequence k skip) fine) in
      subst (λ f. Skipped a IsNext (plan (stmt.If e x y)) f) (sym (stmt_if (traced a.program) here e x y))
      (subst (λ q. Skipped a IsNext q (serial_if e x y)) (sym same)
      (skipped_paths a IsNext (sequence r k) (sequence r (sequence k skip)) (serial_if e x y) (way_last r k (sequence k skip) (way_skip k))
      (skipped_on a Anything IsNext r k (holds (expr_of (traced a.program) here e)) (λ v. choose v (serial x) (serial y)) (condition a is out within alone silent input e own.test (right_front r (sequence k skip) fine))
      (λ v u. skipped_choose a IsNext (plan x) (plan y) (serial x) (serial y) v
      (c own.first none.0 (right_first (plan x) (plan y) both)) (d own.second none.1 (right_second (plan x) (plan y) both))))))

  -- ---- counted loops

  at_counted : (head : LoopHead) (x : Stmt) → SkippedHere x → SkippedHere (stmt.Counted head x)
  at_counted head x c fits quiet right =
      let f : Plan Event = reads_of head.from a.set in
      let t : Plan Event = reads_of head.to a.set in
      let b : Plan Event = plan x in
      let m : Plan Event = assigned a.set head.index.number in
      let one : Plan Event = sequence t (sequence b (sequence m skip)) in
      let w : Plan Event = wrong_where (is_reduced (a.set.roles head.index.number)) 5 head.index.at in
      let rest : Plan Event = sequence f (sequence m (sequence (loop one) (sequence t skip))) in
      let own = counteds_fit a.program head x fits in
      let fine : NothingWrong (sequence w rest) = subst NothingWrong (events_counted head x a.set) right in
      let unreduced : is_reduced (a.set.roles head.index.number) ≡ false = ap is_reduced (shared a is out within alone silent input head.index.number) in
      let inner = right_back w rest fine in
      let looped = right_back m (sequence (loop one) (sequence t skip)) (right_back f (sequence m (sequence (loop one) (sequence t skip))) inner) in
      let last = right_front t skip (right_back (loop one) (sequence t skip) looped) in
      let body_fine = right_front b (sequence m skip) (right_back t (sequence b (sequence m skip)) (right_turn one (right_front (loop one) (sequence t skip) looped))) in
      subst (λ g. Skipped a IsNext (plan (stmt.Counted head x)) g) (sym (stmt_counted (traced a.program) here head x))
      (subst (λ q. Skipped a IsNext q (counted (traced a.program) here head (serial x))) (sym (events_counted head x a.set))
      (skipped_paths a IsNext (sequence f (sequence m (sequence (loop (sequence t (sequence b m))) t))) (sequence w rest) (counted (traced a.program) here head (serial x))
      (λ way v. record {
        front = [];
        back = way;
        whole = refl;
        in_front = subst (λ r. Path (wrong_where r 5 head.index.at) []) (sym unreduced) refl;
        in_back =
            way_last f (sequence m (sequence (loop (sequence t (sequence b m))) t)) (sequence m (sequence (loop one) (sequence t skip)))
            (way_last m (sequence (loop (sequence t (sequence b m))) t) (sequence (loop one) (sequence t skip))
            (λ w2 x2. way_first (loop (sequence t (sequence b m))) (loop one) (sequence t skip)
            (way_loop (sequence t (sequence b m)) one (way_last t (sequence b m) (sequence b (sequence m skip)) (way_last b m (sequence m skip) (way_skip m)))) w2
            (way_last (loop (sequence t (sequence b m))) t (sequence t skip) (way_skip t) w2 x2))) way v;
      })
      (loop_skipped a is out within alone silent input head (index_int a.program head x own.counted) own.from own.to (right_front f (sequence m (sequence (loop one) (sequence t skip))) inner) last b (serial x)
      (c own.inner (every_counted (λ z. is_return z ≡ false) head x quiet) body_fine))))

  -- ---- what may not stand inside

  at_while : (e : Expr) (x : Stmt) (at : Place) → SkippedHere (stmt.While e x at)
  at_while e x at fits quiet right = wrong_loop at (first_right (wrong_where a.set.inside 9 at)
      (loop (in_order (reads_of e a.set ∷ plan x ∷ [])) ∷ reads_of e a.set ∷ []) (subst NothingWrong (events_while e x at a.set) right))

  at_loop : (d : LoopDirective) (x : Stmt) → SkippedHere (stmt.Loop d x)
  at_loop d x fits quiet right = wrong_inside d.at (first_right (wrong_where a.set.inside 10 d.at)
      (in_order (nest_events (at_bounds d x a.set) [] (scalars_of d x) d.nest) ∷ in_order (reduction_events a.set [] d.reductions)
      ∷ loop (iteration a.set d x (events_of x)) ∷ in_order (ends a.set d x) ∷ []) (subst NothingWrong (events_loop d x a.set) right))

  at_tasks : (all : List Task) (at : Place) → SkippedHere (stmt.Tasks all at)
  at_tasks all at fits quiet right = wrong_inside at (first_right (wrong_where a.set.inside 10 at)
      (map (λ t. events_of t.body (in_task a.set t.nodes)) all) (subst NothingWrong (events_tasks all at a.set) right))

  -- ---- blocks

  all_skipped : (all : List Stmt) → AllByRecursion SkippedHere all → AllByRecursion (PartFits a.program) all → AllByRecursion NoReturn all
      → NothingWrong (in_order (map plan all)) → AllByRecursion (λ x. Skipped a IsNext (plan x) (serial x)) all
  all_skipped [] c fits quiet right = tt
  all_skipped (x ∷ xs) c fits quiet right = (
    c.0 fits.0 quiet.0 (right_front (plan x) (in_order (map plan xs)) right),
    all_skipped xs c.1 fits.1 quiet.1 (right_back (plan x) (in_order (map plan xs)) right),
  )

  at_block : (all : List Stmt) → AllByRecursion SkippedHere all → SkippedHere (stmt.Block all)
  at_block all c fits quiet right =
      subst (λ g. Skipped a IsNext (plan (stmt.Block all)) g) (sym (stmt_block (traced a.program) here all))
      (subst (λ q. Skipped a IsNext q (block (map serial all))) (sym (events_block all a.set))
      (skipped_block a plan serial all
      (all_skipped all c (blocks_fit a.program all fits) (every_block (λ z. is_return z ≡ false) all quiet) (subst NothingWrong (events_block all a.set) right))))

  -- ---- all statements

  module _ {C D : Type 0} (x : C → Stmt) (t : D → Task) (h : (c : C) → SkippedHere (x c)) where
    all_of : (cs : List C) → AllByRecursion SkippedHere (map x cs)
    all_of [] = tt
    all_of (c ∷ cs) = (h c, all_of cs)

    at_form : (y : Stmt-F C D) → SkippedHere (roll-Stmt (map-Stmt C D Stmt Task x t y))
    at_form (Stmt-F.Plain q) = subst SkippedHere (sym (stmt.rolls-Plain q)) (at_plain q)
    at_form (Stmt-F.Block all) = subst SkippedHere (sym (stmt.rolls-Block (map x all))) (at_block (map x all) (all_of all))
    at_form (Stmt-F.If e b c) = subst SkippedHere (sym (stmt.rolls-If e (x b) (x c))) (at_if e (x b) (x c) (h b) (h c))
    at_form (Stmt-F.While e b at) = subst SkippedHere (sym (stmt.rolls-While e (x b) at)) (at_while e (x b) at)
    at_form (Stmt-F.Counted head b) = subst SkippedHere (sym (stmt.rolls-Counted head (x b))) (at_counted head (x b) (h b))
    at_form (Stmt-F.Loop d b) = subst SkippedHere (sym (stmt.rolls-Loop d (x b))) (at_loop d (x b))
    at_form (Stmt-F.Tasks all at) = subst SkippedHere (sym (stmt.rolls-Tasks (map t all) at)) (at_tasks (map t all) at)

  pub skipped_here : (x : Stmt) → SkippedHere x
  skipped_here = ind-Stmt SkippedHere (λ t. Unit {0})
      (λ x y is. subst (λ z. SkippedHere (roll-Stmt z)) is (at_form (λ c. c.0) (λ c. c.0) (λ c. c.1) y))
      (λ x y is. tt)

pub statements_skip : StatementsSkip
statements_skip a is out within alone silent input x fits quiet right = skipped_here a is out within alone silent input x fits quiet right
