-- A node outside a task: the value of an expression, and a counted loop round what leaves the node as it was.
use Rattle.std.proofs.Common.{◌≡◌, ◌≢◌, ◌<◌, ◌++◌, ℕ, zero, suc, ℤ, pos, ◌+ℤ◌, Bool, true, false, true≢false, not, List, [], ◌∷◌, None, refl, sym, subst, ap, ◌∙◌, append-nil}
use Rattle.std.specs.Prelude.{unwrap_or}
use Rattle.std.specs.List.{AllByRecursion}
use Rattle.std.proofs.lemmas.Option.{none-some}
use Rattle.xmp_num.specs.declared.types.Ty.TheVariants.{Int}
use Rattle.xmp_num.specs.Arithmetic.{FitsType, wrap}
use Rattle.xmp_prog.specs.declared.expressions.Expr.{Expr}
use Rattle.xmp_prog.specs.declared.statements.LoopHead.{LoopHead}
use Rattle.xmp_prog.specs.declared.statements.Plain.TheVariants as plain
use Rattle.xmp_prog.specs.Fits.{node_count}
use Rattle.xmp_prog.specs.Terms.{terms_of}
use Rattle.xmp_paths.specs.declared.event.Event.{Event}
use Rattle.xmp_paths.specs.declared.event.Event.TheVariants.{Mark}
use Rattle.xmp_paths.specs.NodeSets.{has}
use Rattle.xmp_paths.specs.Plans.{Plan, skip, sequence, branch, loop, Path}
use Rattle.xmp_paths.specs.Walk.{after_events}
use Rattle.xmp_paths.specs.Safe.{left, NothingWrong}
use Rattle.xmp_paths.proofs.PathLaws.{some_path}
use Rattle.xmp_loops.specs.Objects.{scalar_object, array_object, all_nodes}
use Rattle.xmp_loops.specs.declared.role.Role.{Role}
use Rattle.xmp_loops.specs.declared.role.Role.TheVariants.{Shared, Index, Reduced, Own}
use Rattle.xmp_flow.specs.Setting.{others, assigned}
use Rattle.xmp_flow.specs.Reads.{reads_of}
use Rattle.xmp_meaning.specs.declared.ends.Flow.{Flow}
use Rattle.xmp_meaning.specs.declared.ends.Flow.TheVariants.{Next, Returned}
use Rattle.xmp_meaning.specs.Declarations.{scalar_type}
use Rattle.xmp_meaning.specs.Runs.{State, Step, Gave, Ended, Run, and_then, ◌>>=◌, pure, set_scalar}
use Rattle.xmp_meaning.specs.Blocks.{choose, then_run, turns}
use Rattle.xmp_meaning.specs.Context.{Context}
use Rattle.xmp_meaning.specs.Handlers.{erased}
use Rattle.xmp_meaning.specs.Expressions.{expr_of, holds, is_zero}
use Rattle.xmp_meaning.specs.Loops.{is_inside, turn_count, entering, inside, step_up, counted}
use Rattle.xmp_meaning.specs.Exchanges.{Notes, traced}
use Rattle.xmp_meaning.proofs.Forms.{stmt_plain}
use Rattle.xmp_meaning.proofs.Stays.{set_other}
use Rattle.xmp_meaning_laws.specs.Laws.{scalar_in}
use Rattle.xmp_meaning_laws.proofs.Values.{wrap_fits, set_has}
use Rattle.xmp_nodes.proofs.Agrees.{Stand, Agrees, Anything, IsNext, Still, Skipped}
use Rattle.xmp_nodes.proofs.Standing.{TermStands, IsSetting}
use Rattle.xmp_nodes.proofs.Leaves.{serial_cx}
use Rattle.xmp_nodes.proofs.Follow.{agrees_fewer, way_none, skipped_pure, skipped_paths, skipped_on, skipped_then, skipped_choose}
use Rattle.xmp_nodes.proofs.InStep.{way_right}
use Rattle.xmp_nodes.proofs.LoopsInStep.{MarksNothing, one_turn, unrolled}
use Rattle.xmp_nodes.proofs.MetEvents.{each_emit}
use Rattle.xmp_nodes.proofs.NodeBits.{all_have}
use Rattle.xmp_nodes.proofs.PlainWrites.{with_scalar, set_length}
use Rattle.xmp_nodes.proofs.ReadsMark.{reads_keep}
use Rattle.xmp_nodes.proofs.SameRuns.{noted_expr}
use Rattle.xmp_nodes.proofs.SkipMarks.{Fades, keeps, marks_emit, beside}
use Rattle.xmp_nodes.proofs.SkipPlains.{whole_left, still_by}

-- ---- steps

module _ (a : Stand) where
  skip_end : (p : Plan Event) (way : List Event) → Path (sequence p skip) way → Path p way
  skip_end p way w = subst (Path p) (sym (w.whole ∙ (ap (λ l. w.front ++ l) w.in_back ∙ append-nil w.front))) w.in_front

  -- nothing happens behind
  skipped_last : {A B : Type 0} (V : A → Type 0) (W : B → Type 0) (p : Plan Event) (f : Run Notes A) (g : A → Run Notes B)
      → Skipped a V p f → ((v : A) → V v → Skipped a W skip (g v)) → Skipped a W p (f >>= g)
  skipped_last V W p f g c d = skipped_paths a W (sequence p skip) p (f >>= g) (skip_end p) (skipped_on a V W p skip f g c d)

  -- a step that marks nothing, as one along no plan
  idle_step : {A : Type 0} (V : A → Type 0) (p : Plan Event) (stale : ℕ → Bool) (s : State Notes) (n : State (Unit {0})) (r : Step Notes A)
      → MarksNothing p → Still a V p stale s n r → Still a V skip stale s n r
  idle_step V p stale s n (Gave v t) idle h = record {
    value = h.value;
    way = [];
    path = refl;
    kept = λ object e. e;
    agrees = agrees_fewer a (left a.node h.way stale) stale t n (λ object e. idle a.node h.way h.path stale object ∙ e) h.agrees;
    framed = h.framed;
  }
  idle_step V p stale s n (Ended e t) idle h = tt

  skipped_idle : {A : Type 0} (V : A → Type 0) (p : Plan Event) (f : Run Notes A) → MarksNothing p → Skipped a V p f → Skipped a V skip f
  skipped_idle V p f idle c stale s n g = idle_step V p stale s n (f s) idle (c stale s n g)

  -- nothing happens, along turns
  no_turns : (t b : Plan Event) → MarksNothing t → Skipped a IsNext (sequence (loop (sequence t b)) t) (pure Next)
  no_turns t b idle stale s n g =
      let y = some_path t in
      record {
        value = refl;
        way = y.0;
        path = record { front = []; back = y.0; whole = refl; in_front = way_none (sequence t b); in_back = y.1 };
        kept = λ object e. idle a.node y.0 y.1 stale object ∙ e;
        agrees = agrees_fewer a stale (left a.node y.0 stale) s n (λ object e. sym (idle a.node y.0 y.1 stale object) ∙ e) g;
        framed = record { extra = refl; steps = λ i. refl; turn = λ d o. record { out = refl; taken = refl; scalars = λ slot e. refl; rows = λ array e. refl; cells = λ array tm m cell e i u. refl } };
      }

  -- the value of an expression, from a statement that evaluates it
  value_of : (plan : Plan Event) (stale : ℕ → Bool) (s : State Notes) (n : State (Unit {0})) (r : Step Notes ℤ)
      → Still a Anything plan stale s n (and_then r (λ v. pure (Returned v))) → Still a Anything plan stale s n r
  value_of plan stale s n (Gave v t) h = record { value = tt; way = h.way; path = h.path; kept = h.kept; agrees = h.agrees; framed = h.framed }
  value_of plan stale s n (Ended e t) h = tt

module _ (a : Stand) (is : IsSetting a) (out : has a.set.nodes a.node ≡ false) (within : a.set.inside ≡ true) (alone : a.set.over ≡ None) (silent : a.base ≡ None) (input : List ℕ) where
  abbrev pub cx : Context
  cx = serial_cx a.program input

  abbrev pub shared : (slot : ℕ) → a.set.roles slot ≡ Shared
  shared = is.shared alone

  pub all_there : has (all_nodes a.set.program) a.node ≡ true
  all_there = all_have a.set.program a.node (subst (λ p. a.node < node_count p) (sym is.program) is.below)

  -- ---- expressions

  idle : (e : Expr) → MarksNothing (reads_of e a.set)
  idle e node way w stale object = reads_keep a.set node e way w stale object

  expr_skipped : (e : Expr) → AllByRecursion (TermStands a.program) (terms_of a.program e) → NothingWrong (reads_of e a.set)
      → Skipped a Anything (reads_of e a.set) (expr_of (traced a.program) cx e)
  expr_skipped e terms right stale s n g =
      subst (λ (f : Run Notes ℤ). Still a Anything (reads_of e a.set) stale s n (f s)) (sym (noted_expr a.program cx e))
      (value_of a (reads_of e a.set) stale s n (expr_of erased cx e s)
      (subst (λ (f : Run Notes Flow). Still a Anything (reads_of e a.set) stale s n (f s)) (stmt_plain erased cx (plain.Return e))
      (still_by a is within out alone silent input (plain.Return e) refl terms right tt stale s n g Anything
      (whole_left a is within out alone silent input (plain.Return e) refl terms right refl refl s g.whole) (λ v u w. tt))))

  pub condition : (e : Expr) → AllByRecursion (TermStands a.program) (terms_of a.program e) → NothingWrong (reads_of e a.set)
      → Skipped a Anything (reads_of e a.set) (holds (expr_of (traced a.program) cx e))
  condition e terms right = skipped_last a Anything Anything (reads_of e a.set) (expr_of (traced a.program) cx e) (λ v. pure (not (is_zero v))) (expr_skipped e terms right)
      (λ v u. skipped_pure a Anything (not (is_zero v)) tt)

  -- ---- counted loops

  module _ (head : LoopHead) (int : scalar_type a.program head.index.number ≡ Int)
      (from_fits : AllByRecursion (TermStands a.program) (terms_of a.program head.from)) (to_fits : AllByRecursion (TermStands a.program) (terms_of a.program head.to))
      (from_fine : NothingWrong (reads_of head.from a.set)) (to_fine : NothingWrong (reads_of head.to a.set)) where
    abbrev f : Plan Event
    f = reads_of head.from a.set

    abbrev t : Plan Event
    t = reads_of head.to a.set

    abbrev m : Plan Event
    m = assigned a.set head.index.number

    abbrev marked : Event
    marked = Mark (scalar_object head.index.number) a.set.nodes (others a.set)

    int_fits : (v : ℤ) → FitsType (scalar_type a.program head.index.number) (wrap Int v)
    int_fits v = subst (λ ty. FitsType ty (wrap Int v)) (sym int) (wrap_fits Int v)

    module _ (v : ℤ) (fits : FitsType (scalar_type a.program head.index.number) v) (stale : ℕ → Bool) where
      abbrev now : ℕ → Bool
      now = left a.node (marked ∷ []) stale

      still_out : (object : ℕ) → stale object ≡ true → now object ≡ true
      still_out object e = ap (after_events object a.node (marked ∷ [])) e ∙ keeps a.node m (each_emit (Fades a.node) marked out) (marked ∷ []) refl object

      still_in : (object : ℕ) → now object ≡ false → stale object ≡ false
      still_in object e = of_case (stale object) refl
        where
          of_case : (b : Bool) → stale object ≡ b → stale object ≡ false
          of_case true i = absurd (true≢false (sym (still_out object i) ∙ e))
          of_case false i = i

      index_out : now (scalar_object head.index.number) ≡ true
      index_out = marks_emit a.node (scalar_object head.index.number) a.set.nodes (others a.set) (beside a.node a.set out all_there alone shared) (marked ∷ []) refl (stale (scalar_object head.index.number))

      other : (slot : ℕ) → now (scalar_object slot) ≡ false → head.index.number ≢ slot
      other slot e i = true≢false (sym index_out ∙ (ap (λ k. now (scalar_object k)) i ∙ e))

      abbrev is_shared : Role → Bool
      is_shared Shared = true
      is_shared Index = false
      is_shared (Reduced op) = false
      is_shared Own = false

      not_shared : (slot : ℕ) (r : Role) → is_shared r ≡ false → a.set.roles slot ≡ r → ⊥
      not_shared slot r e i = true≢false (ap is_shared (sym (shared slot) ∙ i) ∙ e)

      agrees_index : (s : State Notes) (n : State (Unit {0})) → Agrees a stale s n → Agrees a now (with_scalar head.index.number v s) n
      agrees_index s n g = record {
        whole = record {
          scalars = set_length s.scalars head.index.number v ∙ g.whole.scalars;
          rows = g.whole.rows;
          values = record {
            scalars = λ x. set_has (FitsType (scalar_type a.program x)) (pos 0) s.scalars head.index.number x v (λ e. subst (λ y. FitsType (scalar_type a.program y) v) e fits) (g.whole.values.scalars x);
            cells = g.whole.values.cells;
          };
        };
        packed = g.packed;
        typed = g.typed;
        scalars = λ slot r e. g.scalars slot r (still_in (scalar_object slot) e) ∙ sym (ap (λ o. unwrap_or o (pos 0)) (set_other s.scalars head.index.number slot v (other slot e)));
        indices = λ slot e. absurd (not_shared slot Index refl e);
        sums = λ slot op e. absurd (not_shared slot (Reduced op) refl e);
        copies = λ array h e. g.copies array h (still_in (array_object array) e);
        owned = g.owned;
        shadows = g.shadows;
        current = λ array tm k e h. g.current array tm k e (still_in (array_object array) h);
        point = λ d o. absurd (none-some d (sym alone ∙ o));
        steps = g.steps;
        out = g.out;
        taken = g.taken;
      }

    set_index : (v : ℤ) → FitsType (scalar_type a.program head.index.number) v → Skipped a Anything m (set_scalar head.index.number v)
    set_index v fits stale s n g = record {
      value = tt;
      way = marked ∷ [];
      path = refl;
      kept = still_out v fits stale;
      agrees = agrees_index v fits stale s n g;
      framed = record { extra = refl; steps = λ i. refl; turn = λ d o. absurd (none-some d (sym alone ∙ o)) };
    }

    test_skipped : Skipped a Anything t (inside (traced a.program) cx head)
    test_skipped stale s n g =
        skipped_last a Anything Anything t (expr_of (traced a.program) cx head.to) (λ w. pure (is_inside head.inclusive (scalar_in s head.index.number) (wrap Int w)))
        (expr_skipped head.to to_fits to_fine) (λ w u. skipped_pure a Anything (is_inside head.inclusive (scalar_in s head.index.number) (wrap Int w)) tt) stale s n g

    step_skipped : Skipped a IsNext m (step_up head)
    step_skipped stale s n g =
        let v : ℤ = wrap Int (scalar_in s head.index.number +ℤ pos head.step) in
        skipped_last a Anything IsNext m (set_scalar head.index.number v) (λ u. pure Next) (set_index v (int_fits (scalar_in s head.index.number +ℤ pos head.step)))
        (λ u w. skipped_pure a IsNext Next refl) stale s n g

    -- the entry: the bound is evaluated once more than the events say
    bound_of : (v : ℤ) → Run Notes ℕ
    bound_of v = expr_of (traced a.program) cx head.to >>= (λ w. pure (turn_count (wrap Int v) (wrap Int w) head.inclusive head.step))

    entry_skipped : Skipped a Anything (sequence f m) (entering (traced a.program) cx head)
    unfolding bound_of
    entry_skipped =
        skipped_on a Anything Anything f m (expr_of (traced a.program) cx head.from) (λ v. set_scalar head.index.number (wrap Int v) >>= (λ u. bound_of v)) (expr_skipped head.from from_fits from_fine)
        (λ v u. skipped_last a Anything Anything m (set_scalar head.index.number (wrap Int v)) (λ w. bound_of v) (set_index (wrap Int v) (int_fits v))
        (λ w x. skipped_last a Anything Anything skip (expr_of (traced a.program) cx head.to) (λ z. pure (turn_count (wrap Int v) (wrap Int z) head.inclusive head.step))
        (skipped_idle a Anything t (expr_of (traced a.program) cx head.to) (idle head.to) (expr_skipped head.to to_fits to_fine))
        (λ z y. skipped_pure a Anything (turn_count (wrap Int v) (wrap Int z) head.inclusive head.step) tt)))

    module _ (b : Plan Event) (body : Run Notes Flow) (c : Skipped a IsNext b body) where
      abbrev turning : Plan Event
      turning = sequence (loop (sequence t (sequence b m))) t

      turns_skipped : (k : ℕ) → Skipped a IsNext turning (turns k (inside (traced a.program) cx head) (then_run body (step_up head)))
      turns_skipped zero = no_turns a t (sequence b m) (idle head.to)
      turns_skipped (suc k) =
          let test : Run Notes Bool = inside (traced a.program) cx head in
          let one : Run Notes Flow = then_run body (step_up head) in
          skipped_paths a IsNext (one_turn a.program t (sequence b m)) turning (turns (suc k) test one) (unrolled a.program t (sequence b m))
          (skipped_on a Anything IsNext t (branch (sequence (sequence b m) turning) skip) test (λ more. choose more (then_run one (turns k test one)) (pure Next)) test_skipped
          (λ more u. skipped_choose a IsNext (sequence (sequence b m) turning) skip (then_run one (turns k test one)) (pure Next) more
          (skipped_then a IsNext (sequence b m) turning one (turns k test one) (skipped_then a IsNext b m body (step_up head) c step_skipped) (turns_skipped k))
          (skipped_pure a IsNext Next refl)))

      pub loop_skipped : Skipped a IsNext (sequence f (sequence m turning)) (counted (traced a.program) cx head body)
      loop_skipped =
          skipped_paths a IsNext (sequence (sequence f m) turning) (sequence f (sequence m turning)) (counted (traced a.program) cx head body) (way_right f m turning)
          (skipped_on a Anything IsNext (sequence f m) turning (entering (traced a.program) cx head) (λ n. turns n (inside (traced a.program) cx head) (then_run body (step_up head))) entry_skipped
          (λ n u. turns_skipped n))
