-- What a body of a loop directive doesn't do where nothing is wrong in its plan: it prints nothing, and writes no array
-- without align.
use Rattle.std.proofs.Common.{◌≡◌, ◌++◌, ◌||◌, ℕ, Bool, true, false, true≢false, List, [], ◌∷◌, map, Option, Some, None, inl, inr, refl, sym, subst, ap, ◌∙◌}
use Rattle.std.specs.Prelude.{slice_get, is_some, if◌then◌else◌}
use Rattle.std.specs.List.{AllByRecursion, flat_map, concat}
use Rattle.xmp_base.specs.declared.place.Place.{Place}
use Rattle.xmp_paths.specs.Plans.{Plan, branch, in_order, Stands}
use Rattle.xmp_paths.specs.Safe.{NothingWrong}
use Rattle.xmp_paths.specs.declared.event.Event.{Event}
use Rattle.xmp_paths.specs.declared.event.Event.TheVariants.{Wrong}
use Rattle.xmp_map.specs.declared.grid.NodeSet.{NodeSet}
use Rattle.xmp_prog.specs.declared.expressions.Access.{Access}
use Rattle.xmp_prog.specs.declared.expressions.Expr.{Expr}
use Rattle.xmp_prog.specs.declared.expressions.Expr.TheFolds.{fold-roll-Access}
use Rattle.xmp_prog.specs.declared.parts.Array.{Array}
use Rattle.xmp_prog.specs.declared.parts.Home.{Home}
use Rattle.xmp_prog.specs.declared.parts.Home.TheVariants as home
use Rattle.xmp_prog.specs.declared.statements.Compound.{Compound}
use Rattle.xmp_prog.specs.declared.statements.LoopDirective.{LoopDirective}
use Rattle.xmp_prog.specs.declared.statements.Target.{Target}
use Rattle.xmp_prog.specs.declared.statements.Target.TheVariants as target
use Rattle.xmp_prog.specs.declared.statements.Plain.{Plain}
use Rattle.xmp_prog.specs.declared.statements.Plain.TheVariants as plain
use Rattle.xmp_prog.specs.declared.statements.Stmt.{Stmt, map-Stmt, out-Stmt}
use Rattle.xmp_prog.specs.declared.statements.Task.{Task}
use Rattle.xmp_prog.specs.declared.statements.Stmt.TheOpen.{Stmt-F}
use Rattle.xmp_prog.specs.declared.statements.Stmt.TheFolds.{ind-Stmt, fold-Task, fold-roll-Stmt}
use Rattle.xmp_prog.specs.declared.statements.Stmt.TheViews.{roll-Stmt, roll-out-Stmt}
use Rattle.xmp_prog.specs.Statements.{Statement, Walked, WalkedTask, statement_of, statements_below, walk_step, walk_task, walked, statements_of, terms_in}
use Rattle.xmp_prog.specs.Terms.{Typed, typed_step, access_step, terms_of, terms_of_access}
use Rattle.xmp_prog.specs.Tests.{subscripts_fit}
use Rattle.xmp_meaning.specs.Declarations.{home_of_array, home_of}
use Rattle.xmp_meaning.specs.Writes.{target_arrays, plain_arrays, arrays_step, written_in_task, arrays_written}
use Rattle.xmp_meaning_laws.specs.Laws.{is_no_print}
use Rattle.xmp_meaning_laws.proofs.Conditions.{all_apart, all_together}
use Rattle.xmp_loops.specs.Forms.{is_nothing, assigns}
use Rattle.xmp_flow.specs.Setting.{Setting, wrong_where}
use Rattle.xmp_flow.specs.Elements as elements
use Rattle.xmp_flow.specs.Elements.{element_write, write_at_home}
use Rattle.xmp_flow.specs.Reads.{reads_of, reads_of_all, subscript_reads}
use Rattle.xmp_flow.specs.PlainEvents.{in_form, old_element, assignment_events, plain_events}
use Rattle.xmp_flow.specs.Statements.{Told, ToldTask, stmt_step, task_step, told, told_task, events_in, events_of, if_form, form_of_if}
use Rattle.xmp_flow.proofs.ToldLaws.{statement-told}
use Rattle.xmp_nodes.proofs.Standing.{TermStands}

-- ---- what stands in plans in order

stands_in : (before : List (Plan Event)) (q : Plan Event) (after : List (Plan Event)) (e : Event) → Stands q e → Stands (in_order (before ++ q ∷ after)) e
stands_in [] q after e s = inl s
stands_in (p ∷ before) q after e s = inr (stands_in before q after e s)

pub nothing_in : (before : List (Plan Event)) (q : Plan Event) (after : List (Plan Event)) → NothingWrong (in_order (before ++ q ∷ after)) → NothingWrong q
nothing_in before q after n rule at s = n rule at (stands_in before q after (Wrong rule at) s)

pub test_fails : (test : Bool) (rule : ℕ) (at : Place) → NothingWrong (wrong_where test rule at) → test ≡ false
test_fails true rule at n = absurd (n rule at refl)
test_fails false rule at n = refl

module _ (set : Setting) (d : LoopDirective) (over : set.over ≡ Some d) (inside : set.inside ≡ true) where
  abbrev IsNoCopy : ℕ → Type 0
  IsNoCopy array = home_of set.program array ≡ home.Copy → ⊥

  pub record BodyFacts (ys : List Statement) (arrays : List ℕ) : Type 0 where
    pub prints : AllByRecursion (λ y. is_no_print y ≡ true) ys
    pub copies : AllByRecursion IsNoCopy arrays

  both_facts : (ys zs : List Statement) (xs us : List ℕ) → BodyFacts ys xs → BodyFacts zs us → BodyFacts (ys ++ zs) (xs ++ us)
  both_facts ys zs xs us f g = record {
    prints = all_together (λ y. is_no_print y ≡ true) ys zs f.prints g.prints;
    copies = all_together IsNoCopy xs us f.copies g.copies;
  }

  with_first : (y : Statement) (ys : List Statement) (xs : List ℕ) → is_no_print y ≡ true → BodyFacts ys xs → BodyFacts (y ∷ ys) xs
  with_first y ys xs e f = record { prints = (e, f.prints); copies = f.copies }

  alone : (y : Statement) → is_no_print y ≡ true → BodyFacts (y ∷ []) []
  alone y e = record { prints = (e, tt); copies = tt }

  wrong_inside : {A : Type 0} (at : Place) → NothingWrong (wrong_where set.inside 10 at) → A
  wrong_inside at n = absurd (true≢false (sym inside ∙ test_fails set.inside 10 at n))

  wrong_over : {A : Type 0} (test : Bool) (rule : ℕ) (at : Place) → NothingWrong (wrong_where (is_some set.over || test) rule at) → A
  wrong_over test rule at n =
      absurd (true≢false (ap (λ o. is_some o || test) (sym over) ∙ test_fails (is_some set.over || test) rule at n))

  -- ---- a cell that is assigned

  copy_wrong : (subscripts : List Expr) (array : ℕ) (at : Place) → NothingWrong (write_at_home set array subscripts at (Some home.Copy)) → ⊥
  copy_wrong subscripts array at n = subst (λ o. NothingWrong (elements.copy_written set array at o)) over n 6 at refl

  written_fits : (array : ℕ) (subscripts : List Expr) (at : Place) (a : Option Array) (types : List _) → slice_get set.program.arrays array ≡ a
      → subscripts_fit a types ≡ true → NothingWrong (element_write set array subscripts at) → home_of_array a ≡ home.Copy → ⊥
  written_fits array subscripts at None types e f n c = absurd (true≢false (sym f))
  written_fits array subscripts at (Some a) types e f n c =
      copy_wrong subscripts array at
      (subst (λ h. NothingWrong (write_at_home set array subscripts at (Some h))) c
      (subst (λ o. NothingWrong (write_at_home set array subscripts at (elements_home o))) e n))
    where
      elements_home : Option Array → Option Home
      elements_home None = None
      elements_home (Some b) = Some b.home

  element_there : (a : Access) → AllByRecursion (TermStands set.program) (terms_of_access set.program a) → NothingWrong (element_write set a.array a.subscripts a.at)
      → IsNoCopy a.array
  element_there a t n c =
      let first : _ = subst (AllByRecursion (TermStands set.program))
      (ap (λ (w : Typed). w.terms) (fold-roll-Access Typed Typed (typed_step set.program) (access_step set.program)
      (record { array = a.array; subscripts = a.subscripts; image = a.image; at = a.at }))) t in
      written_fits a.array a.subscripts a.at (slice_get set.program.arrays a.array) _ refl first.0.element n c

  set_facts : (to : Target) (c : Option Compound) (value : Expr) → AllByRecursion (TermStands set.program) (terms_in {A = List ℕ} {B = NodeSet} set.program (Stmt-F.Plain (plain.Set to c value)))
      → NothingWrong (assignment_events set c value to) → AllByRecursion IsNoCopy (target_arrays to)
  set_facts (target.Scalar slot at) c value t n = tt
  set_facts (target.Cell a) c value t n = (
    element_there a (all_apart (TermStands set.program) (terms_of_access set.program a) (terms_of set.program value) t).0
        (last_of (subscript_reads a set) n),
    tt,
  )
    where
      last_of : (reads : List (Plan Event)) → NothingWrong (in_order (reads ++ old_element set a c ∷ reads_of value set ∷ element_write set a.array a.subscripts a.at ∷ []))
          → NothingWrong (element_write set a.array a.subscripts a.at)
      last_of [] m = nothing_in (old_element set a c ∷ reads_of value set ∷ []) (element_write set a.array a.subscripts a.at) [] m
      last_of (r ∷ reads) m = last_of reads (λ rule at s. m rule at (inr s))

  plain_facts : (q : Plain) → AllByRecursion (TermStands set.program) (terms_in {A = List ℕ} {B = NodeSet} set.program (Stmt-F.Plain q)) → NothingWrong (plain_events q set)
      → BodyFacts (Stmt-F.Plain q ∷ []) (plain_arrays q)
  plain_facts (plain.Declare slot value at) t n = alone _ refl
  plain_facts (plain.Set to c value) t n = record { prints = (refl, tt); copies = set_facts to c value t n }
  plain_facts (plain.Return value) t n = alone _ refl
  plain_facts (plain.Call function arguments at) t n = alone _ refl
  plain_facts (plain.Print format arguments at) t n = wrong_over _ 7 at (nothing_in (reads_of_all arguments set) _ [] n)
  plain_facts (plain.Scan to at) t n = wrong_over _ 8 at (nothing_in _ _ [] n)
  plain_facts (plain.Sync status at) t n = alone _ refl
  plain_facts (plain.Reflect arrays at) t n = alone _ refl
  plain_facts (plain.Barrier at) t n = alone _ refl
  plain_facts (plain.Cast variables from at) t n = alone _ refl
  plain_facts (plain.Gmove to from at) t n = wrong_inside at (λ rule at s. n rule at (inl s))

  -- ---- all statements

  abbrev Facts : Stmt → Type 0
  Facts x = BodyFacts (statements_of x) (arrays_written x)

  abbrev StmtFacts : Stmt → Type 0
  StmtFacts x = AllByRecursion (TermStands set.program) (flat_map (terms_in set.program) (statements_of x)) → NothingWrong (events_of x set) → Facts x

  abbrev walked_task : Task → WalkedTask
  walked_task = fold-Task Walked WalkedTask walk_step walk_task

  abbrev task_arrays : Task → List ℕ
  task_arrays = fold-Task (List ℕ) (List ℕ) arrays_step written_in_task

  -- a statement that is of a form
  statements_at : (x : Stmt) (y : Stmt-F Stmt Task) → out-Stmt x ≡ y
      → statements_of x ≡ (walk_step (map-Stmt Stmt Task Walked WalkedTask walked walked_task y)).statements
  statements_at x y e =
      ap statements_of (sym (roll-out-Stmt x) ∙ ap roll-Stmt e) ∙ ap (λ (w : Walked). w.statements) (fold-roll-Stmt Walked WalkedTask walk_step walk_task y)

  arrays_at : (x : Stmt) (y : Stmt-F Stmt Task) → out-Stmt x ≡ y
      → arrays_written x ≡ arrays_step (map-Stmt Stmt Task (List ℕ) (List ℕ) arrays_written task_arrays y)
  arrays_at x y e = ap arrays_written (sym (roll-out-Stmt x) ∙ ap roll-Stmt e) ∙ fold-roll-Stmt (List ℕ) (List ℕ) arrays_step written_in_task y

  nothing_facts : (x : Stmt) (y : Stmt-F Stmt Task) → out-Stmt x ≡ y → is_nothing y ≡ true → Facts x
  nothing_facts x (Stmt-F.Block []) e f =
      subst (λ ys. BodyFacts ys (arrays_written x)) (sym (statements_at x (Stmt-F.Block []) e))
      (subst (BodyFacts (Stmt-F.Block [] ∷ [])) (sym (arrays_at x (Stmt-F.Block []) e)) (alone (Stmt-F.Block []) refl))
  nothing_facts x (Stmt-F.Block (s ∷ ss)) e f = absurd (true≢false (sym f))
  nothing_facts x (Stmt-F.Plain s) e f = absurd (true≢false (sym f))
  nothing_facts x (Stmt-F.If test a b) e f = absurd (true≢false (sym f))
  nothing_facts x (Stmt-F.While test body at) e f = absurd (true≢false (sym f))
  nothing_facts x (Stmt-F.Counted head body) e f = absurd (true≢false (sym f))
  nothing_facts x (Stmt-F.Loop directive body) e f = absurd (true≢false (sym f))
  nothing_facts x (Stmt-F.Tasks all at) e f = absurd (true≢false (sym f))

  -- something was found
  abbrev IsFound : {A : Type 0} → Option A → Type 0
  IsFound None = ⊥
  IsFound (Some a) = Unit {0}

  assigned_facts : (x : Stmt) (y : Stmt-F Stmt Task) → out-Stmt x ≡ y → IsFound (assigns y) → Facts x
  assigned_facts x (Stmt-F.Plain (plain.Set (target.Scalar v at) None value)) e f =
      subst (λ ys. BodyFacts ys (arrays_written x)) (sym (statements_at x _ e)) (subst (BodyFacts _) (sym (arrays_at x _ e)) (alone _ refl))
  assigned_facts x (Stmt-F.Plain (plain.Set (target.Scalar v at) (Some c) value)) e f = absurd f
  assigned_facts x (Stmt-F.Plain (plain.Set (target.Cell a) c value)) e f = absurd f
  assigned_facts x (Stmt-F.Plain (plain.Declare slot value at)) e f = absurd f
  assigned_facts x (Stmt-F.Plain (plain.Return value)) e f = absurd f
  assigned_facts x (Stmt-F.Plain (plain.Call function arguments at)) e f = absurd f
  assigned_facts x (Stmt-F.Plain (plain.Print format arguments at)) e f = absurd f
  assigned_facts x (Stmt-F.Plain (plain.Scan to at)) e f = absurd f
  assigned_facts x (Stmt-F.Plain (plain.Sync status at)) e f = absurd f
  assigned_facts x (Stmt-F.Plain (plain.Reflect arrays at)) e f = absurd f
  assigned_facts x (Stmt-F.Plain (plain.Barrier at)) e f = absurd f
  assigned_facts x (Stmt-F.Plain (plain.Cast variables from at)) e f = absurd f
  assigned_facts x (Stmt-F.Plain (plain.Gmove to from at)) e f = absurd f
  assigned_facts x (Stmt-F.Block all) e f = absurd f
  assigned_facts x (Stmt-F.If test a b) e f = absurd f
  assigned_facts x (Stmt-F.While test body at) e f = absurd f
  assigned_facts x (Stmt-F.Counted head body) e f = absurd f
  assigned_facts x (Stmt-F.Loop directive body) e f = absurd f
  assigned_facts x (Stmt-F.Tasks all at) e f = absurd f

  -- the branches of an `if`: those of a reduction form, or judged by themselves
  branch_facts : (test : Expr) (a b : Stmt) (form : Option (List Expr)) → if_form set test a b ≡ form
      → NothingWrong (in_form set (in_order (reads_of test set ∷ branch (events_of a set) (events_of b set) ∷ [])) form)
      → (NothingWrong (events_of a set) → Facts a) → (NothingWrong (events_of b set) → Facts b) → Facts a × Facts b
  branch_facts test a b None e n f g =
      let both : NothingWrong (branch (events_of a set) (events_of b set)) = nothing_in (reads_of test set ∷ []) (branch (events_of a set) (events_of b set)) [] n in
      (f (λ rule at s. both rule at (inl s)), g (λ rule at s. both rule at (inr s)))
  branch_facts test a b (Some es) e n f g = at_nothing (is_nothing (out-Stmt b)) refl e
    where
      found_of : (o : Option _) → form_of_if set test o ≡ Some es → IsFound o
      found_of None h = none_some h
        where
          none_some : None ≡ Some es → ⊥
          none_some h = cc
      found_of (Some z) h = tt

      at_nothing : (c : Bool) → is_nothing (out-Stmt b) ≡ c → (if c then form_of_if set test (assigns (out-Stmt a)) else None) ≡ Some es → Facts a × Facts b
      at_nothing true i h = (assigned_facts a (out-Stmt a) refl (found_of (assigns (out-Stmt a)) h), nothing_facts b (out-Stmt b) refl i)
      at_nothing false i h = absurd (none_some h)
        where
          none_some : None ≡ Some es → ⊥
          none_some h = cc

  module _ {C D : Type 0} (p : C → Stmt) (q : D → Task) (j : (c : C) → StmtFacts (p c)) where
    abbrev mapped : Stmt-F C D → Stmt-F Stmt Task
    mapped y = map-Stmt C D Stmt Task p q y

    abbrev of_walk : Stmt-F C D → List Statement
    of_walk y = (walk_step (map-Stmt Stmt Task Walked WalkedTask walked walked_task (mapped y))).statements

    abbrev of_arrays : Stmt-F C D → List ℕ
    of_arrays y = arrays_step (map-Stmt Stmt Task (List ℕ) (List ℕ) arrays_written task_arrays (mapped y))

    abbrev of_events : Stmt-F C D → Plan Event
    of_events y = events_in (map-Stmt Stmt Task Told ToldTask told told_task (mapped y)) set

    abbrev walked_form : Stmt-F C D → Stmt-F Walked WalkedTask
    walked_form y = map-Stmt Stmt Task Walked WalkedTask walked walked_task (mapped y)

    abbrev AllStand : List Statement → Type 0
    AllStand ys = AllByRecursion (TermStands set.program) (flat_map (terms_in set.program) ys)

    stand_apart : (ys zs : List Statement) → AllStand (ys ++ zs) → AllStand ys × AllStand zs
    stand_apart [] zs h = (tt, h)
    stand_apart (y ∷ ys) zs h =
        let first : _ = all_apart (TermStands set.program) (terms_in set.program y) (flat_map (terms_in set.program) (ys ++ zs)) h in
        let rest : _ = stand_apart ys zs first.1 in
        (all_together (TermStands set.program) (terms_in set.program y) (flat_map (terms_in set.program) ys) first.0 rest.0, rest.1)

    behind_first : (y : Stmt-F C D) → AllStand (of_walk y) → AllStand (statements_below (walked_form y))
    behind_first y h = (all_apart (TermStands set.program) (terms_in set.program (statement_of (walked_form y))) (flat_map (terms_in set.program) (statements_below (walked_form y))) h).1

    with_it : (y : Stmt-F C D) (xs : List ℕ) → is_no_print (statement_of (walked_form y)) ≡ true → BodyFacts (statements_below (walked_form y)) xs → BodyFacts (of_walk y) xs
    with_it y xs e f = with_first (statement_of (walked_form y)) (statements_below (walked_form y)) xs e f

    block_facts : (cs : List C) → AllStand (flat_map (λ s. s.statements) (map walked (map p cs))) → NothingWrong (in_order (map (λ t. t.events set) (map told (map p cs))))
        → BodyFacts (flat_map (λ s. s.statements) (map walked (map p cs))) (concat (map arrays_written (map p cs)))
    block_facts [] h n = record { prints = tt; copies = tt }
    block_facts (c ∷ cs) h n =
        let both : _ = stand_apart (statements_of (p c)) (flat_map (λ s. s.statements) (map walked (map p cs))) h in
        both_facts (statements_of (p c)) (flat_map (λ s. s.statements) (map walked (map p cs))) (arrays_written (p c)) (concat (map arrays_written (map p cs)))
        (j c both.0 (λ rule at s. n rule at (inl s))) (block_facts cs both.1 (λ rule at s. n rule at (inr s)))

    facts_of_step : (y : Stmt-F C D) → AllStand (of_walk y) → NothingWrong (of_events y) → BodyFacts (of_walk y) (of_arrays y)
    facts_of_step (Stmt-F.Plain s) t n = plain_facts s (all_apart (TermStands set.program) (terms_in {A = List ℕ} {B = NodeSet} set.program (Stmt-F.Plain s)) [] t).0 n
    facts_of_step (Stmt-F.Block all) t n =
        with_it (Stmt-F.Block all) (of_arrays (Stmt-F.Block all)) refl (block_facts all (behind_first (Stmt-F.Block all) t) n)
    facts_of_step (Stmt-F.If test a b) t n =
        let terms : _ = stand_apart (statements_of (p a)) (statements_of (p b)) (behind_first (Stmt-F.If test a b) t) in
        let told_so : NothingWrong (in_form set (in_order (reads_of test set ∷ branch (events_of (p a) set) (events_of (p b) set) ∷ [])) (if_form set test (p a) (p b))) =
        subst (λ z. NothingWrong (in_form set (in_order (reads_of test set ∷ branch (events_of (p a) set) (events_of (p b) set) ∷ [])) (if_form set test (p a) z))) (statement-told (p b))
        (subst (λ z. NothingWrong (in_form set (in_order (reads_of test set ∷ branch (events_of (p a) set) (events_of (p b) set) ∷ [])) (if_form set test z (told (p b)).statement))) (statement-told (p a)) n) in
        let both : _ = branch_facts test (p a) (p b) (if_form set test (p a) (p b)) refl told_so (j a terms.0) (j b terms.1) in
        with_it (Stmt-F.If test a b) (of_arrays (Stmt-F.If test a b)) refl
        (both_facts (statements_of (p a)) (statements_of (p b)) (arrays_written (p a)) (arrays_written (p b)) both.0 both.1)
    facts_of_step (Stmt-F.While test body at) t n =
        with_it (Stmt-F.While test body at) (of_arrays (Stmt-F.While test body at)) refl (j body (behind_first (Stmt-F.While test body at) t)
        (λ rule place s. n rule place (inr (inl (inr (inl s))))))
    facts_of_step (Stmt-F.Counted head body) t n =
        with_it (Stmt-F.Counted head body) (of_arrays (Stmt-F.Counted head body)) refl (j body (behind_first (Stmt-F.Counted head body) t)
        (λ rule place s. n rule place (inr (inr (inr (inl (inr (inl s))))))))
    facts_of_step (Stmt-F.Loop directive body) t n = wrong_inside directive.at (λ rule at s. n rule at (inl s))
    facts_of_step (Stmt-F.Tasks all at) t n = wrong_inside at (λ rule at s. n rule at (inl s))

  rolled : {w w' : Walked} {u u' : List ℕ} {v v' : Told} → w ≡ w' → u ≡ u' → v ≡ v'
      → (AllByRecursion (TermStands set.program) (flat_map (terms_in set.program) w'.statements) → NothingWrong (v'.events set) → BodyFacts w'.statements u')
      → AllByRecursion (TermStands set.program) (flat_map (terms_in set.program) w.statements) → NothingWrong (v.events set) → BodyFacts w.statements u
  rolled {w} {w'} {u} {u'} {v} {v'} a b e f t n =
      subst (λ z. BodyFacts z.statements u) (sym a) (subst (BodyFacts w'.statements) (sym b)
      (f (subst (λ z. AllByRecursion (TermStands set.program) (flat_map (terms_in set.program) z.statements)) a t) (subst (λ z. NothingWrong (z.events set)) e n)))

  pub body_facts : (x : Stmt) → StmtFacts x
  body_facts = ind-Stmt StmtFacts (λ t. Unit {0})
      (λ x y is. subst (λ z. StmtFacts (roll-Stmt z)) is
      (rolled (fold-roll-Stmt Walked WalkedTask walk_step walk_task _) (fold-roll-Stmt (List ℕ) (List ℕ) arrays_step written_in_task _)
      (fold-roll-Stmt Told ToldTask stmt_step task_step _) (facts_of_step (λ c. c.0) (λ c. c.0) (λ c. c.1) y)))
      (λ x y is. tt)
