-- With more steps the same comes, where it wasn't for want of steps that a run ended.
use Rattle.std.proofs.Common.{◌≡◌, ◌+◌, ◌≤◌, ◌<◌, ◌==◌, ℕ, zero, suc, ℤ, pos, Bool, true, false, if◌then◌else◌, List, [], ◌∷◌, length, refl, sym, ap, subst, arith}
use Rattle.std.specs.Prelude.{Option, Some, None, slice_get}
use Rattle.xmp_num.specs.Arithmetic.{wrap}
use Rattle.xmp_prog.specs.declared.parts.ProgParts.{ProgParts}
use Rattle.xmp_prog.specs.declared.parts.Function.{Function}
use Rattle.xmp_meaning.specs.declared.ends.End.TheVariants.{Trapped, OutOfSteps, PhaseEnd}
use Rattle.xmp_meaning.specs.declared.ends.Flow.{Flow}
use Rattle.xmp_meaning.specs.declared.ends.Flow.TheVariants.{Next, Returned}
use Rattle.xmp_meaning.specs.Runs.{State, Step, Gave, Ended, Run, and_then, ◌>>=◌, pure, step_of, state_of}
use Rattle.xmp_meaning.specs.Blocks.{after, then_run, choose, turns}
use Rattle.xmp_meaning.specs.Layouts.{Whole}
use Rattle.xmp_meaning.specs.Context.{Context}
use Rattle.xmp_meaning.specs.Handlers.{erased}
use Rattle.xmp_meaning.specs.Expressions.{after_call}
use Rattle.xmp_meaning.specs.Loops.{turn}
use Rattle.xmp_meaning.specs.Statements.{stmt_of}
use Rattle.xmp_meaning.specs.Calls.{frame, bind, returned, invoke_some, context, call_of, main_context}
use Rattle.xmp_meaning.specs.Programs.{beginning, outcome_of, serial, serial_end}
use Rattle.xmp_meaning.specs.Laws.{richer, SameWithMore, SameOutcome}
use Rattle.xmp_meaning.proofs.Keeps.{Keeps, KeepsHandlers, erased_kept}
use Rattle.xmp_meaning.proofs.RelatedStatements.{keeps-stmt, keeps-program}
use Rattle.xmp_meaning.proofs.Stays.{Any, all_any}

module _ (more : ℕ) where
  -- the second step is the first with more steps left, and the first has at most so many left
  pub record Rich (X A : Type 0) (most : ℕ) (r r' : Step X A) : Type 0 where
    pub same : SameWithMore more r r'
    pub less : (state_of r).steps ≤ most

  rich_less : {X A : Type 0} (m n : ℕ) (r r' : Step X A) → m ≤ n → Rich X A m r r' → Rich X A n r r'
  rich_less m n r r' le h = record { same = h.same; less = omega (arith, le, h.less) }

  rich_on : {X A B : Type 0} (most : ℕ) (f g : A → Run X B) (r r' : Step X A) → Rich X A most r r'
      → ((a : A) (t : State X) → t.steps ≤ most → Rich X B t.steps (f a t) (g a (richer more t)))
      → Rich X B most (and_then r f) (and_then r' g)
  rich_on {X} {A} {B} most f g (Gave a t) r' h rest =
      subst (λ u. Rich X B most (f a t) (and_then u g)) (sym h.same) (rich_less t.steps most (f a t) (g a (richer more t)) h.less (rest a t h.less))
  rich_on most f g (Ended (Trapped kind at) t) r' h rest = record { same = ap (λ u. and_then u g) h.same; less = h.less }
  rich_on most f g (Ended OutOfSteps t) r' h rest = record { same = tt; less = h.less }
  rich_on most f g (Ended PhaseEnd t) r' h rest = record { same = ap (λ u. and_then u g) h.same; less = h.less }

  -- the calls of a context are alike so
  abbrev pub CallsRichly : Context → Type 0
  CallsRichly cx = (k : ℕ) (vs : List ℤ) (steps : ℕ) → Rich (Unit {0}) ℤ steps (cx.call k vs steps) (cx.call k vs (steps + more))

  module _ {X : Type 0} where
    abbrev pub Richly : (A : Type 0) → Run X A → Run X A → Type 0
    Richly A f g = (s : State X) → Rich X A s.steps (f s) (g (richer more s))

    gives_richly : {A : Type 0} (a : A) → Richly A (pure a) (pure a)
    gives_richly a s = record { same = refl; less = omega arith }

    goes_on_richly : {A B : Type 0} (p q : Run X A) (f g : A → Run X B) → Richly A p q → ((a : A) → Richly B (f a) (g a)) → Richly B (p >>= f) (q >>= g)
    goes_on_richly p q f g h i s = rich_on s.steps f g (p s) (q (richer more s)) (h s) (λ a t le. i a t)

    -- ---- loops
    module _ (test test' : Run X Bool) (body body' : Run X Flow) (h : Richly Bool test test') (i : Richly Flow body body') where
      abbrev Turns : ℕ → ℕ → Type 0
      Turns n m = (s : State X) → s.steps < n → Rich X Flow s.steps (turns n test (turn body) s) (turns m test' (turn body') (richer more s))

      turn_richly : (n m : ℕ) → Turns n m → (s : State X) (left : ℕ) → s.steps ≡ left → s.steps ≤ n
          → Rich X Flow s.steps (and_then (and_then (step_of left s) (λ u. body)) (λ flow. after flow (turns n test (turn body))))
          (and_then (and_then (step_of (left + more) (richer more s)) (λ u. body')) (λ flow. after flow (turns m test' (turn body'))))
      turn_richly n m rest s zero e le = record { same = tt; less = omega arith }
      turn_richly n m rest s (suc left) e le =
          subst (λ k. Rich X Flow s.steps (and_then (body s') (λ flow. after flow (turns n test (turn body))))
          (and_then (and_then (step_of k (richer more s)) (λ u. body')) (λ flow. after flow (turns m test' (turn body')))))
          (let q : suc (left + more) ≡ suc left + more = omega arith in q)
          (rich_less left s.steps _ _ (omega (arith, e)) (rich_on left _ _ (body s') (body' (richer more s')) (i s') at_flow))
        where
          s' : State X
          s' = record s { steps = left }

          at_flow : (flow : Flow) (t : State X) → t.steps ≤ left
              → Rich X Flow t.steps (after flow (turns n test (turn body)) t) (after flow (turns m test' (turn body')) (richer more t))
          at_flow Next t fewer = rest t (omega (arith, e, le, fewer))
          at_flow (Returned v) t fewer = record { same = refl; less = omega arith }

      turns_richly : (n m : ℕ) → n ≤ m → Turns n m
      turns_richly zero m le s lt = absurd (omega (arith, lt))
      turns_richly (suc n) zero le s lt = absurd (omega (arith, le))
      turns_richly (suc n) (suc m) le s lt = rich_on s.steps _ _ (test s) (test' (richer more s)) (h s) (at_more (turns_richly n m (omega (arith, le))))
        where
          at_more : Turns n m → (b : Bool) (t : State X) → t.steps ≤ s.steps
              → Rich X Flow t.steps (choose b (then_run (turn body) (turns n test (turn body))) (pure Next) t)
              (choose b (then_run (turn body') (turns m test' (turn body'))) (pure Next) (richer more t))
          at_more rest true t fewer = turn_richly n m rest t t.steps refl (omega (arith, fewer, lt))
          at_more rest false t fewer = record { same = refl; less = omega arith }

    call_richly : (s : State X) (r r' : Step (Unit {0}) ℤ) → Rich (Unit {0}) ℤ s.steps r r' → Rich X ℤ s.steps (after_call s r) (after_call (richer more s) r')
    call_richly s (Gave v t) r' h = record { same = ap (after_call (richer more s)) h.same; less = h.less }
    call_richly s (Ended (Trapped kind at) t) r' h = record { same = ap (after_call (richer more s)) h.same; less = h.less }
    call_richly s (Ended OutOfSteps t) r' h = record { same = tt; less = h.less }
    call_richly s (Ended PhaseEnd t) r' h = record { same = ap (after_call (richer more s)) h.same; less = h.less }

    pub richly : (cx : Context) → CallsRichly cx → Keeps X X cx Any Any Richly
    richly cx calls = record {
      gives = gives_richly;
      traps = λ kind at s. record { same = refl; less = omega arith };
      goes_on = λ {A} {B} {p} {q} {f} {g} h i. goes_on_richly p q f g h i;
      scalars = λ slot s. record { same = refl; less = omega arith };
      sets_scalar = λ slot may v s. record { same = refl; less = omega arith };
      cells = λ row at s. record { same = refl; less = omega arith };
      sets_cell = λ row may at v s. record { same = refl; less = omega arith };
      writes = λ text s. record { same = refl; less = omega arith };
      inputs = λ s. record { same = refl; less = omega arith };
      sets_taken = λ n s. record { same = refl; less = omega arith };
      calls = λ k vs s. call_richly s (cx.call k vs s.steps) (cx.call k vs (s.steps + more)) (calls k vs s.steps);
      loops = λ {test} {test'} {body} {body'} h i s.
          turns_richly test test' body body' h i (suc s.steps) (suc (s.steps + more)) (omega arith) s (omega arith);
    }

    pub richly_erased : (cx : Context) → CallsRichly cx → KeepsHandlers X X Any Richly erased erased
    richly_erased cx calls = erased_kept (richly cx calls)

  -- ---- calls
  bind_richly : (p : ProgParts) (slots : List ℕ) (vs : List ℤ) → Richly {X = Unit {0}} (Unit {0}) (bind p slots vs) (bind p slots vs)
  bind_richly p [] vs s = gives_richly tt s
  bind_richly p (slot ∷ slots) [] s = gives_richly tt s
  bind_richly p (slot ∷ slots) (v ∷ vs) s = bind_richly p slots vs _

  invoke_richly : (cx : Context) → CallsRichly cx → (f : Option Function) (vs : List ℤ) → Richly {X = Unit {0}} ℤ (invoke_some cx f vs) (invoke_some cx f vs)
  invoke_richly cx calls None vs = gives_richly (pos 0)
  invoke_richly cx calls (Some f) vs =
      goes_on_richly (bind cx.program f.parameters vs) (bind cx.program f.parameters vs) (λ u. value) (λ u. value) (bind_richly cx.program f.parameters vs)
      (λ u. goes_on_richly statement statement convert convert (keeps-stmt cx (richly cx calls) (richly_erased cx calls) f.body (all_any _) (all_any _))
      (λ flow. gives_richly (wrap f.result (returned flow))))
    where
      statement : Run (Unit {0}) Flow
      statement = stmt_of erased cx f.body

      convert : Flow → Run (Unit {0}) ℤ
      convert flow = pure (wrap f.result (returned flow))

      value : Run (Unit {0}) ℤ
      value = statement >>= convert

  pub calls_richly : (p : ProgParts) (node : ℕ) (input : List ℕ) (n : ℕ) → CallsRichly (context p node input n)
  unfolding call_of
  calls_richly p node input zero k vs steps = record { same = refl; less = omega arith }
  calls_richly p node input (suc n) k vs steps =
      at_test (k == n) (invoke_richly (context p node [] n) (calls_richly p node [] n) (slice_get p.functions n) vs (frame p steps))
      (calls_richly p node input n k vs steps)
    where
      at_test : {q q' r r' : Step (Unit {0}) ℤ} (b : Bool) → Rich (Unit {0}) ℤ steps q q' → Rich (Unit {0}) ℤ steps r r'
          → Rich (Unit {0}) ℤ steps (if b then q else r) (if b then q' else r')
      at_test true h i = h
      at_test false h i = i

  -- ---- the whole program
  same_outcome : (p : ProgParts) (r r' : Step (Unit {0}) Flow) → SameWithMore more r r' → SameOutcome (outcome_of p r) (outcome_of p r')
  same_outcome p (Gave flow s) r' h = ap (outcome_of p) h
  same_outcome p (Ended (Trapped kind at) s) r' h = ap (outcome_of p) h
  same_outcome p (Ended OutOfSteps s) r' h = tt
  same_outcome p (Ended PhaseEnd s) r' h = ap (outcome_of p) h

  pub more_steps : (p : ProgParts) (input : List ℕ) (steps : ℕ) → SameOutcome (serial p input steps) (serial p input (steps + more))
  more_steps p input steps = same_outcome p (serial_end p input steps) (serial_end p input (steps + more))
      (keeps-program cx (richly cx calls) (richly_erased cx calls) (all_any _) (all_any _) (all_any _) (beginning Whole p steps tt)).same
    where
      cx : Context
      cx = main_context p 0 input

      calls : CallsRichly cx
      calls = calls_richly p 0 input (length p.functions)
