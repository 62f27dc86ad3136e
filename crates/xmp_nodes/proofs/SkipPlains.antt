-- A plain statement of a task at a node outside, and the value of an expression: the node is left as it was.
use Rattle.std.proofs.Common.{◌≡◌, ◌≢◌, ◌<◌, ◌++◌, inl, inr, ℕ, suc, ℤ, pos, Bool, true, false, true≢false, not, List, [], ◌∷◌, map, length, Option, Some, None, refl, sym, ap, subst, ◌∙◌}
use Rattle.std.specs.Prelude.{◌&&◌, ◌||◌, is_some, is_none, slice_get, unwrap_or}
use Rattle.std.specs.List.{AllByRecursion, list_all, flat_map}
use Rattle.std.proofs.lemmas.Bool.{eqb-true}
use Rattle.std.proofs.lemmas.Option.{none-some, same_Some}
use Rattle.std.proofs.lemmas.List.Folds.{list_all-append}
use Rattle.xmp_base.specs.declared.place.Place.{Place}
use Rattle.xmp_num.specs.declared.types.Ty.{Ty}
use Rattle.xmp_num.specs.Arithmetic.{FitsType}
use Rattle.xmp_map.specs.declared.array_map.ArrayMap.{ArrayMap}
use Rattle.xmp_map.specs.RowMajor.{row_major}
use Rattle.xmp_map.proofs.Counted.{and_right}
use Rattle.xmp_prog.specs.declared.parts.Home.{Home}
use Rattle.xmp_prog.specs.declared.parts.Home.TheVariants as home
use Rattle.xmp_prog.specs.declared.expressions.Expr.{Expr}
use Rattle.xmp_prog.specs.declared.expressions.Access.{Access}
use Rattle.xmp_prog.specs.declared.expressions.Expr.TheOpen.{Access-F}
use Rattle.xmp_prog.specs.declared.statements.Compound.{Compound}
use Rattle.xmp_prog.specs.declared.statements.Target.TheVariants as target
use Rattle.xmp_prog.specs.declared.statements.Plain.{Plain}
use Rattle.xmp_prog.specs.declared.statements.Plain.TheVariants as plain
use Rattle.xmp_prog.specs.declared.statements.Stmt.{Stmt}
use Rattle.xmp_prog.specs.declared.statements.Stmt.TheVariants as stmt
use Rattle.xmp_prog.specs.declared.statements.Stmt.TheOpen.{Stmt-F}
use Rattle.xmp_prog.specs.Fits.{node_count}
use Rattle.xmp_prog.specs.Terms.{Term, Element, terms_of, terms_of_access, terms_of_list}
use Rattle.xmp_prog.specs.Tests.{element_fits, image_fits, is_image, is_return}
use Rattle.xmp_prog.specs.Tests as tests
use Rattle.xmp_prog.specs.Statements.{Walked, WalkedTask, walk_step, walk_task, terms_in, terms_of_plain, plain_writes}
use Rattle.xmp_prog.proofs.Rolls as rolls
use Rattle.xmp_paths.specs.NodeSets.{has}
use Rattle.xmp_paths.specs.Plans.{Plan, in_order, Path, Stands}
use Rattle.xmp_paths.specs.Walk.{after_events}
use Rattle.xmp_paths.specs.Safe.{left, NothingWrong}
use Rattle.xmp_paths.proofs.PathLaws.{some_path}
use Rattle.xmp_paths.specs.declared.event.Event.{Event}
use Rattle.xmp_paths.specs.declared.event.Event.TheVariants.{Read, Wrong, Mark}
use Rattle.xmp_loops.specs.Objects.{scalar_object, array_object, all_nodes}
use Rattle.xmp_loops.specs.declared.role.Role.{Role}
use Rattle.xmp_loops.specs.declared.role.Role.TheVariants.{Shared, Index, Reduced, Own}
use Rattle.xmp_flow.specs.Setting.{wrong_where, is_first_alone, is_alone}
use Rattle.xmp_flow.specs.Reads.{reads_of, reads_of_all, subscript_reads}
use Rattle.xmp_flow.specs.Elements.{element_write}
use Rattle.xmp_flow.specs.PlainEvents.{scalar_assigned, old_scalar, old_element, set_events, in_form, form_of_set, scanned, plain_events}
use Rattle.xmp_meaning.specs.declared.ends.Flow.{Flow}
use Rattle.xmp_meaning.specs.Cells.{row_in, read_in}
use Rattle.xmp_meaning.specs.Declarations.{home_of, extents, scalar_type, array_type}
use Rattle.xmp_meaning.specs.Runs.{State, Step, Gave, Ended, state_of}
use Rattle.xmp_meaning.specs.Context.{Context}
use Rattle.xmp_meaning.specs.Handlers.{erased}
use Rattle.xmp_meaning.specs.Expressions.{after_call}
use Rattle.xmp_meaning.specs.Statements.{stmt_of}
use Rattle.xmp_meaning.specs.Exchanges.{Notes}
use Rattle.xmp_meaning.specs.Traffic.{copied}
use Rattle.xmp_meaning.specs.Writes.{scalars_step, arrays_step, written_in_task, scalars_written, arrays_written, plain_arrays}
use Rattle.xmp_meaning.proofs.Preorders.{Respected, keeps as keeps_all, keeps_erased}
use Rattle.xmp_meaning.proofs.RelatedStatements.{keeps-stmt}
use Rattle.xmp_meaning.proofs.Stays.{Any, all_any, keeps_scalar, keeps_array}
use Rattle.xmp_meaning_laws.specs.Laws.{scalar_in, calls_pass, is_without, is_no_while, has_no_while, is_no_scan, is_plain, TakesNoStep}
use Rattle.xmp_meaning_laws.proofs.CountedLoops.{both_true}
use Rattle.xmp_meaning_laws.proofs.Conditions.{all_apart}
use Rattle.xmp_meaning_laws.proofs.Stays.{steps_stay, input_stays}
use Rattle.xmp_move.specs.Sides.{owns_cell, position}
use Rattle.xmp_move.specs.Stores.{word_at}
use Rattle.xmp_move.specs.Whole.{Shows}
use Rattle.xmp_nodes.proofs.Agrees.{Stand, IsWhole, Agrees, Still}
use Rattle.xmp_nodes.proofs.Standing.{TermStands, IsSetting}
use Rattle.xmp_nodes.proofs.Leaves.{serial_cx}
use Rattle.xmp_nodes.proofs.MetEvents.{EachEvent, EachOf, each_ordered}
use Rattle.xmp_nodes.proofs.ReadEvents.{expr_seen, access_seen}
use Rattle.xmp_nodes.proofs.CalledFunctions.{loops_or_not}
use Rattle.xmp_nodes.proofs.CellNumbers.{not_coarray}
use Rattle.xmp_nodes.proofs.NodeBits.{all_have}
use Rattle.xmp_nodes.proofs.NodeExpressions.{term_test, terms_test}
use Rattle.xmp_nodes.proofs.SkipMarks.{Keeps, Marks, keeps, plain_fades, plain_marks}

same_items : {A : Type 0} (xs ys : List A) → ((k : ℕ) → slice_get xs k ≡ slice_get ys k) → xs ≡ ys
same_items [] [] h = refl
same_items [] (y ∷ ys) h = absurd (none-some y (h 0))
same_items (x ∷ xs) [] h = absurd (none-some x (sym (h 0)))
same_items (x ∷ xs) (y ∷ ys) h = ap (λ z. z ∷ xs) (same_Some x y (h 0)) ∙ ap (λ l. y ∷ l) (same_items xs ys (λ k. h (suc k)))

each_gives : {A : Type 0} (P Q : A → Type 0) → ((x : A) → P x → Q x) → (xs : List A) → AllByRecursion P xs → AllByRecursion Q xs
each_gives P Q f [] h = tt
each_gives P Q f (x ∷ xs) h = (f x h.0, each_gives P Q f xs h.1)

-- no statement notes anything, where directives mean nothing
module _ (cx : Context) where
  noted : Respected Notes cx Any Any (λ s t. t.extra ≡ s.extra)
  noted = record {
    same = λ s. refl;
    then = λ s t u a b. b ∙ a;
    scalars = λ s slot v may. refl;
    arrays = λ s row at v may. refl;
    out = λ s text. refl;
    taken = λ s n. refl;
    steps = λ s n e. refl;
    calls = λ s k vs. of_call s (cx.call k vs s.steps);
  }
    where
      of_call : (s : State Notes) (r : Step (Unit {0}) ℤ) → (state_of (after_call s r)).extra ≡ s.extra
      of_call s (Gave v t) = refl
      of_call s (Ended e t) = refl

  pub extra_stays : (x : Stmt) (s : State Notes) → (state_of (stmt_of erased cx x s)).extra ≡ s.extra
  extra_stays x = keeps-stmt cx (keeps_all noted) (keeps_erased noted) x (all_any (scalars_written x)) (all_any (arrays_written x))

-- nothing wrong in one event
abbrev pub Fair : Event → Type 0
Fair (Read object nodes rule at) = Unit {0}
Fair (Wrong rule at) = ⊥
Fair (Mark object current out) = Unit {0}

pub fair : (plan : Plan Event) → NothingWrong plan → EachEvent Fair plan
fair plan h e s = of_event e s
  where
    of_event : (e : Event) → Stands plan e → Fair e
    of_event (Read object nodes rule at) s = tt
    of_event (Wrong rule at) s = h rule at s
    of_event (Mark object current out) s = tt

module _ (a : Stand) (is : IsSetting a) (within : a.set.inside ≡ true) where
  -- ---- calls

  abbrev pub lone : ℕ → Bool
  lone = is_without a.program (length a.program.functions)

  no_image : (e : Access-F Ty Ty) → term_test a.program (Element e) ≡ true → is_none e.image ≡ true
  no_image e h = either (is_none e.image) (tests.is_coarray (slice_get a.program.arrays e.array)) (and_right (element_fits a.program (Element e)) (image_fits a.program (Element e)) h) (not_coarray a.program is.global e.array)
    where
      either : (x y : Bool) → (x || y) ≡ true → y ≡ false → x ≡ true
      either true y h e = refl
      either false y h e = absurd (true≢false (sym h ∙ e))

  of_call : (function : ℕ) (at : Place) → EachEvent Fair (wrong_where (a.set.inside && a.set.loops function) 9 at) → lone function ≡ true
  of_call function at h = loops_or_not a.program function (subst (λ loops. loops function ≡ false) is.loops (of_tests a.set.inside (a.set.loops function) within h))
    where
      of_tests : (x y : Bool) → x ≡ true → EachEvent Fair (wrong_where (x && y) 9 at) → y ≡ false
      of_tests true true i h = absurd (h (Wrong 9 at) refl)
      of_tests true false i h = refl
      of_tests false y i h = absurd (true≢false (sym i))

  abbrev pub CallsPass : List Term → Type 0
  CallsPass ts = list_all (calls_pass lone) ts ≡ true

  pub expr_calls : (e : Expr) → AllByRecursion (TermStands a.program) (terms_of a.program e) → EachEvent Fair (reads_of e a.set) → CallsPass (terms_of a.program e)
  expr_calls e terms h =
      (expr_seen a.set (λ slot. None) a.program Fair (λ n. true) (λ s. Unit {0}) (term_test a.program) no_image lone (λ slot at m. refl) of_call (λ b t m. tt) e (terms_test a.program (terms_of a.program e) terms) h).2

  access_calls : (e : Access) → AllByRecursion (TermStands a.program) (terms_of_access a.program e) → EachOf Fair (subscript_reads e a.set) → CallsPass (terms_of_access a.program e)
  access_calls e terms h =
      (access_seen a.set (λ slot. None) a.program Fair (λ n. true) (λ s. Unit {0}) (term_test a.program) no_image lone (λ slot at m. refl) of_call (λ b t m. tt) e (terms_test a.program (terms_of_access a.program e) terms) h).2

  calls_joined : (xs ys : List Term) → CallsPass xs → CallsPass ys → CallsPass (xs ++ ys)
  calls_joined xs ys h k = list_all-append (calls_pass lone) xs ys ∙ both_true (list_all (calls_pass lone) xs) (list_all (calls_pass lone) ys) h k

  exprs_calls : (es : List Expr) → AllByRecursion (TermStands a.program) (terms_of_list a.program es) → EachOf Fair (reads_of_all es a.set) → CallsPass (terms_of_list a.program es)
  exprs_calls [] terms h = refl
  exprs_calls (e ∷ es) terms h =
      let both : _ = all_apart (TermStands a.program) (terms_of a.program e) (terms_of_list a.program es) terms in
      calls_joined (terms_of a.program e) (terms_of_list a.program es) (expr_calls e both.0 h.0) (exprs_calls es both.1 h.1)

  set_as : ((slot : ℕ) → a.set.roles slot ≡ Shared) → (n : ℕ) (here : Place) (c : Option Compound) (e : Expr) → plain_events (plain.Set (target.Scalar n here) c e) a.set ≡ set_events a.set n here c e
  set_as shared n here c e = ap (λ r. in_form a.set (set_events a.set n here c e) (form_of_set a.set n here c e r)) (shared n)

  plain_calls : (shared : (slot : ℕ) → a.set.roles slot ≡ Shared) (q : Plain) → is_plain q ≡ true → AllByRecursion (TermStands a.program) (terms_of_plain a.program q)
      → EachEvent Fair (plain_events q a.set) → CallsPass (terms_of_plain a.program q)
  plain_calls shared (plain.Declare slot None at) i terms h = refl
  plain_calls shared (plain.Declare slot (Some e) at) i terms h = expr_calls e terms (each_ordered Fair (reads_of e a.set ∷ scalar_assigned a.set slot at) h).0
  plain_calls shared (plain.Set (target.Scalar n here) c e) i terms h =
      expr_calls e terms (each_ordered Fair (old_scalar a.set n here c ∷ reads_of e a.set ∷ scalar_assigned a.set n here) (subst (EachEvent Fair) (set_as shared n here c e) h)).1.0
  plain_calls shared (plain.Set (target.Cell b) c e) i terms h =
      let both : _ = all_apart (TermStands a.program) (terms_of_access a.program b) (terms_of a.program e) terms in
      let parts : _ = all_apart (EachEvent Fair) (subscript_reads b a.set) (old_element a.set b c ∷ reads_of e a.set ∷ element_write a.set b.array b.subscripts b.at ∷ [])
      (each_ordered Fair (subscript_reads b a.set ++ old_element a.set b c ∷ reads_of e a.set ∷ element_write a.set b.array b.subscripts b.at ∷ []) h) in
      calls_joined (terms_of_access a.program b) (terms_of a.program e) (access_calls b both.0 parts.0) (expr_calls e both.1 parts.1.1.0)
  plain_calls shared (plain.Return e) i terms h = expr_calls e terms h
  plain_calls shared (plain.Call function es at) i terms h =
      let parts : _ = all_apart (EachEvent Fair) (reads_of_all es a.set) (wrong_where (a.set.inside && a.set.loops function) 9 at ∷ [])
      (each_ordered Fair (reads_of_all es a.set ++ wrong_where (a.set.inside && a.set.loops function) 9 at ∷ []) h) in
      both_true (lone function) (list_all (calls_pass lone) (terms_of_list a.program es)) (of_call function at parts.1.0) (exprs_calls es terms.1 parts.0)
  plain_calls shared (plain.Print format es at) i terms h =
      let parts : _ = all_apart (EachEvent Fair) (reads_of_all es a.set) (wrong_where (is_some a.set.over || not (is_alone a.set)) 7 at ∷ [])
      (each_ordered Fair (reads_of_all es a.set ++ wrong_where (is_some a.set.over || not (is_alone a.set)) 7 at ∷ []) h) in
      exprs_calls es terms parts.0
  plain_calls shared (plain.Scan (target.Scalar n here) at) i terms h = refl
  plain_calls shared (plain.Scan (target.Cell b) at) i terms h =
      let last : List (Plan Event) = wrong_where (is_some a.set.over || not (is_first_alone a.set)) 8 at ∷ [] in
      let parts : _ = all_apart (EachEvent Fair) (scanned a.set (target.Cell b)) last (each_ordered Fair (scanned a.set (target.Cell b) ++ last) h) in
      let inner : _ = all_apart (EachEvent Fair) (subscript_reads b a.set) (element_write a.set b.array b.subscripts b.at ∷ []) parts.0 in
      access_calls b terms inner.0
  plain_calls shared (plain.Sync status at) i terms h = refl
  plain_calls shared (plain.Reflect arrays at) i terms h = refl
  plain_calls shared (plain.Barrier at) i terms h = refl
  plain_calls shared (plain.Cast variables from at) i terms h = refl
  plain_calls shared (plain.Gmove to from at) i terms h = absurd (true≢false (sym i))

  -- ---- the step

  module _ (out : has a.set.nodes a.node ≡ false) (alone : a.set.over ≡ None) (silent : a.base ≡ None) (input : List ℕ) (q : Plain) (is_one : is_plain q ≡ true)
      (terms : AllByRecursion (TermStands a.program) (terms_of_plain a.program q)) (right : NothingWrong (plain_events q a.set)) where
    abbrev cx : Context
    cx = serial_cx a.program input

    abbrev shared : (slot : ℕ) → a.set.roles slot ≡ Shared
    shared = is.shared alone

    abbrev pub plan : Plan Event
    plan = plain_events q a.set

    all_there : has (all_nodes a.set.program) a.node ≡ true
    all_there = all_have a.set.program a.node (subst (λ p. a.node < node_count p) (sym is.program) is.below)

    lasting : Keeps a.node plan
    lasting = keeps a.node plan (plain_fades a.node a.set out all_there alone shared q is_one)

    marked : AllByRecursion (λ n. Marks a.node (scalar_object n) plan) (plain_writes q)
    marked = plain_marks a.node a.set out all_there alone shared q is_one

    abbrev whole_run : State Notes → Step Notes Flow
    whole_run s = stmt_of erased cx (stmt.Plain q) s

    no_step : (s : State Notes) → TakesNoStep s.steps (whole_run s)
    no_step s = steps_stay Notes a.program 0 input (length a.program.functions) (stmt.Plain q) clear s
      where
        clear : has_no_while a.program lone (stmt.Plain q) ≡ true
        clear =
            subst (λ ys. (list_all is_no_while ys && list_all (calls_pass lone) (flat_map (terms_in a.program) ys)) ≡ true)
            (sym (ap (λ (w : Walked). w.statements) (rolls.at_plain Walked WalkedTask walk_step walk_task q)))
            (calls_joined (terms_of_plain a.program q) [] (plain_calls shared q is_one terms (fair plan right)) refl)

    -- ---- the input

    first_has : a.set.nodes ≡ 1 → a.node ≡ 0 → ⊥
    first_has e i = true≢false (subst (λ k. has 1 k ≡ false) i (subst (λ set. has set a.node ≡ false) e out))

    right_rest : (xs ys : List (Plan Event)) → NothingWrong (in_order (xs ++ ys)) → NothingWrong (in_order ys)
    right_rest [] ys h = h
    right_rest (x ∷ xs) ys h = right_rest xs ys (λ rule at s. h rule at (inr s))

    scan_tests : (at : Place) → a.node ≡ 0 → (x y : Bool) → is_first_alone a.set ≡ y → NothingWrong (in_order (wrong_where (x || not y) 8 at ∷ [])) → ⊥
    scan_tests at i true y e h = h 8 at (inl refl)
    scan_tests at i false true e h = first_has (eqb-true a.set.nodes 1 e) i
    scan_tests at i false false e h = h 8 at (inl refl)

    no_scan : (r : Plain) → NothingWrong (plain_events r a.set) → a.node ≡ 0 → is_no_scan (Stmt-F.Plain r) ≡ true
    no_scan (plain.Declare slot value at) h i = refl
    no_scan (plain.Set to c value) h i = refl
    no_scan (plain.Return value) h i = refl
    no_scan (plain.Call function arguments at) h i = refl
    no_scan (plain.Print format arguments at) h i = refl
    no_scan (plain.Scan to at) h i =
        absurd (scan_tests at i (is_some a.set.over) (is_first_alone a.set) refl (right_rest (scanned a.set to) (wrong_where (is_some a.set.over || not (is_first_alone a.set)) 8 at ∷ []) h))
    no_scan (plain.Sync status at) h i = refl
    no_scan (plain.Reflect arrays at) h i = refl
    no_scan (plain.Barrier at) h i = refl
    no_scan (plain.Cast variables from at) h i = refl
    no_scan (plain.Gmove to from at) h i = refl

    same_taken : (s : State Notes) → a.node ≡ 0 → (state_of (whole_run s)).taken ≡ s.taken
    same_taken s i =
        input_stays cx (stmt.Plain q)
        (subst (λ ys. list_all is_no_scan ys ≡ true) (sym (ap (λ (w : Walked). w.statements) (rolls.at_plain Walked WalkedTask walk_step walk_task q)))
        (both_true (is_no_scan (Stmt-F.Plain q)) true (no_scan q right i) refl)) s

    -- ---- what isn't written

    same_scalar : (slot : ℕ) → AllByRecursion (λ n. n ≢ slot) (plain_writes q) → (s : State Notes) → slice_get (state_of (whole_run s)).scalars slot ≡ slice_get s.scalars slot
    same_scalar slot none s = keeps_scalar cx (stmt.Plain q) slot (subst (AllByRecursion (λ n. n ≢ slot)) (sym (rolls.at_plain (List ℕ) (List ℕ) scalars_step written_in_task q)) none) s

    same_row : (array : ℕ) → AllByRecursion (λ n. n ≢ array) (plain_arrays q) → (s : State Notes) → slice_get (state_of (whole_run s)).arrays array ≡ slice_get s.arrays array
    same_row array none s = keeps_array cx (stmt.Plain q) array (subst (AllByRecursion (λ n. n ≢ array)) (sym (rolls.at_plain (List ℕ) (List ℕ) arrays_step written_in_task q)) none) s

    -- a statement that writes nothing leaves whole rows
    pub whole_left : plain_writes q ≡ [] → plain_arrays q ≡ [] → (s : State Notes) → IsWhole a.program s → IsWhole a.program (state_of (whole_run s))
    whole_left e f s w =
        let g : (state_of (whole_run s)).scalars ≡ s.scalars = same_items (state_of (whole_run s)).scalars s.scalars (λ k. same_scalar k (subst (AllByRecursion (λ n. n ≢ k)) (sym e) tt) s) in
        let h : (state_of (whole_run s)).arrays ≡ s.arrays = same_items (state_of (whole_run s)).arrays s.arrays (λ k. same_row k (subst (AllByRecursion (λ n. n ≢ k)) (sym f) tt) s) in
        record {
          scalars = ap length g ∙ w.scalars;
          rows = ap (λ rows. map length rows) h ∙ w.rows;
          values = record {
            scalars = subst (λ xs. (slot : ℕ) → FitsType (scalar_type a.program slot) (unwrap_or (slice_get xs slot) (pos 0))) (sym g) w.values.scalars;
            cells = subst (λ rows. (array : ℕ) (at : ℤ) → FitsType (array_type a.program array) (read_in rows array at)) (sym h) w.values.cells;
          };
        }

    -- ---- what is agreed on

    module _ (copies : AllByRecursion (λ n. (home_of a.program n ≡ home.Copy) × Marks a.node (array_object n) plan) (plain_arrays q))
        (stale : ℕ → Bool) (s : State Notes) (n : State (Unit {0})) (g : Agrees a stale s n) where
      abbrev way : List Event
      way = (some_path plan).0

      abbrev path : Path plan way
      path = (some_path plan).1

      abbrev now : ℕ → Bool
      now = left a.node way stale

      still_out : (object : ℕ) → stale object ≡ true → now object ≡ true
      still_out object e = ap (after_events object a.node way) e ∙ lasting way path object

      still_in : (object : ℕ) → now object ≡ false → stale object ≡ false
      still_in object e = of_case (stale object) refl
        where
          of_case : (b : Bool) → stale object ≡ b → stale object ≡ false
          of_case true i = absurd (true≢false (sym (still_out object i) ∙ e))
          of_case false i = i

      unwritten : (slot : ℕ) → now (scalar_object slot) ≡ false → AllByRecursion (λ m. m ≢ slot) (plain_writes q)
      unwritten slot e = each_gives (λ m. Marks a.node (scalar_object m) plan) (λ m. m ≢ slot)
          (λ m h i. true≢false (sym (h way path (stale (scalar_object m))) ∙ (ap (λ k. now (scalar_object k)) i ∙ e))) (plain_writes q) marked

      fresh_copy : (array : ℕ) → now (array_object array) ≡ false → AllByRecursion (λ m. m ≢ array) (plain_arrays q)
      fresh_copy array e = each_gives (λ m. (home_of a.program m ≡ home.Copy) × Marks a.node (array_object m) plan) (λ m. m ≢ array)
          (λ m h i. true≢false (sym (h.1 way path (stale (array_object m))) ∙ (ap (λ k. now (array_object k)) i ∙ e))) (plain_arrays q) copies

      abbrev is_copy : Home → Bool
      is_copy home.Copy = true
      is_copy (home.Spread t m) = false
      is_copy home.Image = false

      spread_left : (array t : ℕ) (m : ArrayMap) → home_of a.program array ≡ home.Spread t m → AllByRecursion (λ k. k ≢ array) (plain_arrays q)
      spread_left array t m e = each_gives (λ k. (home_of a.program k ≡ home.Copy) × Marks a.node (array_object k) plan) (λ k. k ≢ array)
          (λ k h i. true≢false (ap is_copy (sym h.0 ∙ (ap (home_of a.program) i ∙ e)))) (plain_arrays q) copies

      abbrev t : State Notes
      t = state_of (whole_run s)

      scalar_same : (slot : ℕ) → now (scalar_object slot) ≡ false → scalar_in t slot ≡ scalar_in s slot
      scalar_same slot e = ap (λ o. unwrap_or o (pos 0)) (same_scalar slot (unwritten slot e) s)

      row_same : (array : ℕ) → AllByRecursion (λ m. m ≢ array) (plain_arrays q) → row_in t.arrays array ≡ row_in s.arrays array
      row_same array none = ap (λ o. unwrap_or o []) (same_row array none s)

      abbrev is_shared : Role → Bool
      is_shared Shared = true
      is_shared Index = false
      is_shared (Reduced op) = false
      is_shared Own = false

      not_shared : (slot : ℕ) (r : Role) → is_shared r ≡ false → a.set.roles slot ≡ r → ⊥
      not_shared slot r e i = true≢false (ap is_shared (sym (shared slot) ∙ i) ∙ e)

      agrees_behind : IsWhole a.program t → t.steps ≡ s.steps → Agrees a now t n
      agrees_behind whole steps = record {
        whole = whole;
        packed = g.packed;
        typed = g.typed;
        scalars = λ slot r e. g.scalars slot r (still_in (scalar_object slot) e) ∙ sym (scalar_same slot e);
        indices = λ slot e. absurd (not_shared slot Index refl e);
        sums = λ slot op e. absurd (not_shared slot (Reduced op) refl e);
        copies = λ array h e. g.copies array h (still_in (array_object array) e) ∙ sym (row_same array (fresh_copy array e));
        owned = λ array tm m e. subst (Shows (extents a.program array) (owns_cell (home.Spread tm m) a.node) (position (home.Spread tm m) (extents a.program array) a.node) (row_in n.arrays array))
            (sym (row_same array (spread_left array tm m e))) (g.owned array tm m e);
        shadows = λ array tm m cell e i h o. g.shadows array tm m cell e i h o ∙ ap (λ (x : Notes). copied x.exchanges array (row_major (extents a.program array) cell)) (sym (extra_stays cx (stmt.Plain q) s));
        current = λ array tm m e f w number. ap (λ (x : Notes). copied x.exchanges array number) (extra_stays cx (stmt.Plain q) s)
            ∙ (g.current array tm m e (still_in (array_object array) f) w number ∙ ap (λ row. word_at row number) (sym (row_same array (spread_left array tm m e))));
        point = λ d o. absurd (none-some d (sym alone ∙ o));
        steps = g.steps ∙ sym steps;
        out = λ before b. absurd (none-some before (sym silent ∙ b));
        taken = λ i. g.taken i ∙ sym (same_taken s i);
      }

      pub still_by : (V : Flow → Type 0) → IsWhole a.program t → ((v : Flow) (u : State Notes) → whole_run s ≡ Gave v u → V v) → Still a V plan stale s n (whole_run s)
      still_by V whole value = of_step (whole_run s) refl (no_step s)
        where
          of_step : (r : Step Notes Flow) → whole_run s ≡ r → TakesNoStep s.steps r → Still a V plan stale s n r
          of_step (Gave v u) e steps = record {
            value = value v u e;
            way = way;
            path = path;
            kept = still_out;
            agrees = subst (λ (r : Step Notes Flow). Agrees a now (state_of r) n) e (agrees_behind whole (ap (λ (r : Step Notes Flow). (state_of r).steps) e ∙ steps));
            framed = record {
              extra = subst (λ (r : Step Notes Flow). (state_of r).extra ≡ s.extra) e (extra_stays cx (stmt.Plain q) s);
              steps = λ i. steps;
              turn = λ d o. absurd (none-some d (sym alone ∙ o));
            };
          }
          of_step (Ended f u) e steps = tt
