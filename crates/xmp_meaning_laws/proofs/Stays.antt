-- What a statement leaves as it was: the steps without an uncounted loop, the input without `scanf`, the output without `printf`.
use Rattle.std.proofs.Common.{◌≡◌, ◌≢◌, ◌==◌, ℕ, zero, suc, ℤ, Bool, true, false, true≢false, List, [], ◌∷◌, Option, Some, None, refl, sym, ◌∙◌, if◌then◌else◌}
use Rattle.std.specs.Prelude.{slice_get, slice_set}
use Rattle.std.specs.List.{AllByRecursion, list_all}
use Rattle.xmp_base.specs.declared.place.Place.{Place}
use Rattle.xmp_num.specs.declared.types.TrapKind.{TrapKind}
use Rattle.xmp_meaning.specs.Declarations.{scalar_type}
use Rattle.xmp_map.proofs.Counted.{and_left, and_right}
use Rattle.xmp_num.specs.Arithmetic.{wrap}
use Rattle.xmp_prog.specs.declared.parts.ProgParts.{ProgParts}
use Rattle.xmp_prog.specs.declared.parts.Function.{Function}
use Rattle.xmp_prog.specs.declared.statements.Stmt.{Stmt}
use Rattle.xmp_prog.specs.Terms.{Term}
use Rattle.xmp_prog.specs.Statements.{Statement, statements_of, terms_of_stmt}
use Rattle.xmp_meaning.specs.declared.ends.End.{End}
use Rattle.xmp_meaning.specs.declared.ends.End.TheVariants.{OutOfSteps, Trapped}
use Rattle.xmp_meaning.specs.declared.ends.Flow.{Flow}
use Rattle.xmp_meaning.specs.Runs.{State, Step, Gave, Ended, Run, and_then, ◌>>=◌, pure, state_of}
use Rattle.xmp_meaning.specs.Context.{Context}
use Rattle.xmp_meaning.specs.Handlers.{erased}
use Rattle.xmp_meaning.specs.Expressions.{after_call}
use Rattle.xmp_meaning.specs.Statements.{stmt_of}
use Rattle.xmp_meaning.specs.Calls.{frame, bind, returned, invoke_some, context, call_of}
use Rattle.xmp_meaning_laws.specs.Laws.{TakesNoStep, StepsStay, InputStays, OutputStays, is_no_while, calls_pass, has_no_while, function_has_none, is_without, is_no_scan, is_no_print}
use Rattle.xmp_meaning_laws.proofs.Conditions.{Anything}
use Rattle.xmp_meaning_laws.proofs.Named.{named, all_of_test, all_of_each, statements_meet}
use Rattle.xmp_meaning_laws.proofs.Idle.{Free}
use Rattle.xmp_meaning_laws.proofs.Watched.{Watch, IsWatch, Watched, watches, No_type}
use Rattle.xmp_meaning_laws.proofs.WhereErased.{erased_keep}
use Rattle.xmp_meaning_laws.proofs.WhereStatements.{kept_stmt}

-- ---- a part of the state that is left as it was

-- a part of the state, which writes of variables leave
abbrev part_watch : {X : Type 0} → (State X → ℕ) → (End → Type 0) → Watch X
part_watch part ends = record { holds = Free; changes = λ s t. part t ≡ part s; ends = ends }

trapped_is_not : {kind : TrapKind} {at : Place} → Trapped kind at ≢ OutOfSteps
trapped_is_not e = cc

none : {A : Type 0} → false ≡ true → A
none e = absurd (true≢false (sym e))

-- calls of the functions that pass a test take no step
abbrev pub CallsFree : Context → (ℕ → Bool) → Type 0
CallsFree cx test = (k : ℕ) → test k ≡ true → (vs : List ℤ) (steps : ℕ) → TakesNoStep steps (cx.call k vs steps)

module _ {X : Type 0} (cx : Context) where
  -- with any conditions on terms and on statements, from the run of a statement
  part_stays : (term : Term → Type 0) (statement : Statement → Type 0) (w : Watch X) → IsWatch X cx (named Free Free Free term statement) No_type w
      → (s : Stmt) → AllByRecursion statement (statements_of s) → AllByRecursion term (terms_of_stmt cx.program s)
      → (t : State X) → w.holds t → Watched w (Anything Flow) t (stmt_of erased cx s t)
  part_stays term statement w i s statements terms =
      kept_stmt (watches i) (erased_keep (watches i) (record {
        gets = λ row may at t h. (h, i.same t, i.cells t row at may h);
        puts = λ row may at v lies t h. let kept : _ = i.sets_cell t row at v may lies h in (kept.0, kept.1, tt);
      })) s
      (statements_meet cx.program Free Free Free term statement (statements_of s) statements (all_of_each Free (λ n. tt) _) (all_of_each Free (λ n. tt) _) (all_of_each Free (λ n. tt) _) terms)

  changed : (w : Watch X) (s : State X) (r : Step X Flow) → Watched w (Anything Flow) s r → w.changes s (state_of r)
  changed w s (Gave flow t) h = h.1
  changed w s (Ended e t) h = h.1

  -- ---- the input
  abbrev taken_watch : Watch X
  taken_watch = part_watch (λ (s : State X). s.taken) Free

  input_watch : IsWatch X cx (named Free Free Free Free (λ y. is_no_scan y ≡ true)) No_type taken_watch
  input_watch = record {
    same = λ s. refl;
    then = λ s t u a b. b ∙ a;
    traps = λ kind at. tt;
    scalars = λ s slot may h. tt;
    sets_scalar = λ s slot v may lies h. (tt, refl);
    cells = λ s row at may h. tt;
    sets_cell = λ s row at v may lies h. (tt, refl);
    writes = λ format arguments at is s text h. (tt, refl);
    sets_taken = λ to at is s n h. none is;
    calls = λ function types at is vs s h. of_call s (cx.call function vs s.steps);
    steps = λ e writes at is. (tt, λ s n q h. (tt, refl));
    own_number = λ is. tt;
    node_counts = λ is. tt;
    constants = λ v ty is. tt;
    operators = λ op ty a b at is x y z lx ly e. tt;
    truths = (tt, tt);
    choices = λ a b d is v lies. tt;
    zeros = λ ty. tt;
    converts = λ ty v. tt;
    indices = λ slot is v. tt;
  }
    where
      of_call : (s : State X) (r : Step (Unit {0}) ℤ) → Watched taken_watch (Anything ℤ) s (after_call s r)
      of_call s (Gave v t) = (tt, refl, tt)
      of_call s (Ended e t) = (tt, refl, tt)

  pub input_stays : (s : Stmt) → InputStays X cx s
  input_stays s clear t = changed taken_watch t (stmt_of erased cx s t)
      (part_stays Free (λ y. is_no_scan y ≡ true) taken_watch input_watch s (all_of_test is_no_scan (statements_of s) clear) (all_of_each Free (λ n. tt) _) t tt)

  -- ---- the output
  abbrev out_watch : Watch X
  out_watch = record { holds = Free; changes = λ s t. t.out ≡ s.out; ends = Free }

  output_watch : IsWatch X cx (named Free Free Free Free (λ y. is_no_print y ≡ true)) No_type out_watch
  output_watch = record {
    same = λ s. refl;
    then = λ s t u a b. b ∙ a;
    traps = λ kind at. tt;
    scalars = λ s slot may h. tt;
    sets_scalar = λ s slot v may lies h. (tt, refl);
    cells = λ s row at may h. tt;
    sets_cell = λ s row at v may lies h. (tt, refl);
    writes = λ format arguments at is s text h. none is;
    sets_taken = λ to at is s n h. (tt, refl);
    calls = λ function types at is vs s h. of_call s (cx.call function vs s.steps);
    steps = λ e writes at is. (tt, λ s n q h. (tt, refl));
    own_number = λ is. tt;
    node_counts = λ is. tt;
    constants = λ v ty is. tt;
    operators = λ op ty a b at is x y z lx ly e. tt;
    truths = (tt, tt);
    choices = λ a b d is v lies. tt;
    zeros = λ ty. tt;
    converts = λ ty v. tt;
    indices = λ slot is v. tt;
  }
    where
      of_call : (s : State X) (r : Step (Unit {0}) ℤ) → Watched out_watch (Anything ℤ) s (after_call s r)
      of_call s (Gave v t) = (tt, refl, tt)
      of_call s (Ended e t) = (tt, refl, tt)

  pub output_stays : (s : Stmt) → OutputStays X cx s
  output_stays s clear t = changed out_watch t (stmt_of erased cx s t)
      (part_stays Free (λ y. is_no_print y ≡ true) out_watch output_watch s (all_of_test is_no_print (statements_of s) clear) (all_of_each Free (λ n. tt) _) t tt)

  -- ---- steps
  abbrev step_watch : Watch X
  step_watch = part_watch (λ (s : State X). s.steps) (λ e. e ≢ OutOfSteps)

  steps_watch : (test : ℕ → Bool) → CallsFree cx test
      → IsWatch X cx (named Free Free Free (λ t. calls_pass test t ≡ true) (λ y. is_no_while y ≡ true)) No_type step_watch
  steps_watch test free = record {
    same = λ s. refl;
    then = λ s t u a b. b ∙ a;
    traps = λ kind at. λ e. trapped_is_not e;
    scalars = λ s slot may h. tt;
    sets_scalar = λ s slot v may lies h. (tt, refl);
    cells = λ s row at may h. tt;
    sets_cell = λ s row at v may lies h. (tt, refl);
    writes = λ format arguments at is s text h. (tt, refl);
    sets_taken = λ to at is s n h. (tt, refl);
    calls = λ function types at is vs s h. of_call s (cx.call function vs s.steps) (free function is vs s.steps);
    steps = λ e writes at is. none is;
    own_number = λ is. tt;
    node_counts = λ is. tt;
    constants = λ v ty is. tt;
    operators = λ op ty a b at is x y z lx ly e. tt;
    truths = (tt, tt);
    choices = λ a b d is v lies. tt;
    zeros = λ ty. tt;
    converts = λ ty v. tt;
    indices = λ slot is v. tt;
  }
    where
      of_call : (s : State X) (r : Step (Unit {0}) ℤ) → TakesNoStep s.steps r → Watched step_watch (Anything ℤ) s (after_call s r)
      of_call s (Gave v t) h = (tt, h, tt)
      of_call s (Ended e t) h = (tt, h.0, h.1)

  no_step : (t : State X) (r : Step X Flow) → Watched step_watch (Anything Flow) t r → TakesNoStep t.steps r
  no_step t (Gave flow u) h = h.1
  no_step t (Ended e u) h = (h.1, h.2)

  pub steps_stay_where : (test : ℕ → Bool) → CallsFree cx test → (s : Stmt) → has_no_while cx.program test s ≡ true
      → (t : State X) → TakesNoStep t.steps (stmt_of erased cx s t)
  steps_stay_where test free s clear t = no_step t (stmt_of erased cx s t)
      (part_stays (λ x. calls_pass test x ≡ true) (λ y. is_no_while y ≡ true) step_watch (steps_watch test free) s
      (all_of_test is_no_while (statements_of s) (and_left (list_all is_no_while (statements_of s)) (list_all (calls_pass test) (terms_of_stmt cx.program s)) clear))
      (all_of_test (calls_pass test) (terms_of_stmt cx.program s) (and_right (list_all is_no_while (statements_of s)) (list_all (calls_pass test) (terms_of_stmt cx.program s)) clear))
      t tt)

-- ---- functions

bind_steps : (p : ProgParts) (slots : List ℕ) (vs : List ℤ) (f : Unit {0} → Run (Unit {0}) ℤ) → ((t : State (Unit {0})) → TakesNoStep t.steps (f tt t))
    → (s : State (Unit {0})) → TakesNoStep s.steps ((bind p slots vs >>= f) s)
bind_steps p [] vs f h s = h s
bind_steps p (slot ∷ slots) [] f h s = h s
bind_steps p (slot ∷ slots) (v ∷ vs) f h s = bind_steps p slots vs f h (record s { scalars = slice_set s.scalars slot (wrap (scalar_type p slot) v) })

body_steps : (left : ℕ) (g : Flow → ℤ) (r : Step (Unit {0}) Flow) → TakesNoStep left r → TakesNoStep left (and_then r (λ flow. pure (g flow)))
body_steps left g (Gave flow s) h = h
body_steps left g (Ended e s) h = h

invoke_steps : (cx : Context) (test : ℕ → Bool) → CallsFree cx test → (f : Option Function) → function_has_none cx.program test f ≡ true
    → (vs : List ℤ) (s : State (Unit {0})) → TakesNoStep s.steps (invoke_some cx f vs s)
invoke_steps cx test free None clear vs s = refl
invoke_steps cx test free (Some f) clear vs s =
    bind_steps cx.program f.parameters vs (λ u. stmt_of erased cx f.body >>= (λ flow. pure (wrap f.result (returned flow))))
    (λ t. body_steps t.steps (λ flow. wrap f.result (returned flow)) (stmt_of erased cx f.body t) (steps_stay_where cx test free f.body clear t)) s

calls_free : (p : ProgParts) (node : ℕ) (input : List ℕ) (n : ℕ) → CallsFree (context p node input n) (is_without p n)
unfolding call_of
calls_free p node input zero k is vs steps = refl
calls_free p node input (suc n) k is vs steps =
    at_test (k == n) (calls_free p node [] n) (λ clear. calls_free p node input n k clear vs steps) is
  where
    at_test : (b : Bool) → CallsFree (context p node [] n) (is_without p n) → (is_without p n k ≡ true → TakesNoStep steps (call_of p node n k vs steps))
        → (if b then function_has_none p (is_without p n) (slice_get p.functions n) else is_without p n k) ≡ true
        → TakesNoStep steps (if b then invoke_some (context p node [] n) (slice_get p.functions n) vs (frame p steps) else call_of p node n k vs steps)
    at_test true free rest clear = invoke_steps (context p node [] n) (is_without p n) free (slice_get p.functions n) clear vs (frame p steps)
    at_test false free rest clear = rest clear

pub steps_stay : (X : Type 0) (p : ProgParts) (node : ℕ) (input : List ℕ) (n : ℕ) (s : Stmt) → StepsStay X p node input n s
steps_stay X p node input n s clear t = steps_stay_where (context p node input n) (is_without p n) (calls_free p node input n) s clear t
