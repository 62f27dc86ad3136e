-- An uncounted loop is a test, a turn and the loop again.
use Rattle.std.proofs.Common.{◌≡◌, ◌≤◌, ◌<◌, ℕ, zero, suc, ℤ, not, Bool, true, false, List, refl, arith}
use Rattle.xmp_prog.specs.declared.parts.ProgParts.{ProgParts}
use Rattle.xmp_prog.specs.declared.expressions.Expr.{Expr}
use Rattle.xmp_prog.specs.declared.statements.Stmt.{Stmt}
use Rattle.xmp_meaning.specs.declared.ends.Flow.{Flow}
use Rattle.xmp_meaning.specs.declared.ends.Flow.TheVariants.{Next, Returned}
use Rattle.xmp_meaning.specs.Runs.{State, Step, Gave, Ended, Run, and_then, ◌>>=◌, pure, step_of, state_of}
use Rattle.xmp_meaning.specs.Blocks.{after, then_run, choose, turns}
use Rattle.xmp_meaning.specs.Context.{Context}
use Rattle.xmp_meaning.specs.Handlers.{erased}
use Rattle.xmp_meaning.specs.Expressions.{expr_of, is_zero, holds}
use Rattle.xmp_meaning.specs.Loops.{turn, while_loop}
use Rattle.xmp_meaning.specs.Statements.{stmt_of}
use Rattle.xmp_meaning.specs.Calls.{context}
use Rattle.xmp_meaning.specs.Writes.{scalars_written, arrays_written}
use Rattle.xmp_meaning.specs.Laws.{LoopUnrolls}
use Rattle.xmp_meaning.proofs.RelatedExpressions.{keeps-expr}
use Rattle.xmp_meaning.proofs.RelatedStatements.{keeps-stmt}
use Rattle.xmp_meaning.proofs.Stays.{all_any}
use Rattle.xmp_meaning.proofs.MoreSteps.{CallsRichly, richly, richly_erased, calls_richly}

module _ {X : Type 0} (test : Run X Bool) (body : Run X Flow)
    (h : (s : State X) → (state_of (test s)).steps ≤ s.steps) (i : (s : State X) → (state_of (body s)).steps ≤ s.steps) where
  -- the bound is of no account where it is above the steps that are left
  abbrev Alike : ℕ → ℕ → Type 0
  Alike n m = (s : State X) → s.steps < n → s.steps < m → turns n test (turn body) s ≡ turns m test (turn body) s

  after_body : (n m left : ℕ) → Alike n m → left < n → left < m → (r : Step X Flow) → (state_of r).steps ≤ left
      → and_then r (λ flow. after flow (turns n test (turn body))) ≡ and_then r (λ flow. after flow (turns m test (turn body)))
  after_body n m left rest ln lm (Gave Next t) le = rest t (omega (arith, le, ln)) (omega (arith, le, lm))
  after_body n m left rest ln lm (Gave (Returned v) t) le = refl
  after_body n m left rest ln lm (Ended e t) le = refl

  after_test : (n m left : ℕ) → Alike n m → (s : State X) → left ≤ n → left ≤ m
      → and_then (and_then (step_of left s) (λ u. body)) (λ flow. after flow (turns n test (turn body)))
      ≡ and_then (and_then (step_of left s) (λ u. body)) (λ flow. after flow (turns m test (turn body)))
  after_test n m zero rest s ln lm = refl
  after_test n m (suc left) rest s ln lm =
      after_body n m left rest ln lm (body (record s { steps = left })) (i (record s { steps = left }))

  at_test : (n m most : ℕ) → Alike n m → most ≤ n → most ≤ m → (r : Step X Bool) → (state_of r).steps ≤ most
      → and_then r (λ more. choose more (then_run (turn body) (turns n test (turn body))) (pure Next))
      ≡ and_then r (λ more. choose more (then_run (turn body) (turns m test (turn body))) (pure Next))
  at_test n m most rest ln lm (Gave true t) le = after_test n m t.steps rest t (omega (arith, ln, le)) (omega (arith, lm, le))
  at_test n m most rest ln lm (Gave false t) le = refl
  at_test n m most rest ln lm (Ended e t) le = refl

  bounds_alike : (n m : ℕ) → Alike n m
  bounds_alike zero m s ln lm = absurd (omega (arith, ln))
  bounds_alike (suc n) zero s ln lm = absurd (omega (arith, lm))
  bounds_alike (suc n) (suc m) s ln lm = at_test n m s.steps (bounds_alike n m) (omega (arith, ln)) (omega (arith, lm)) (test s) (h s)

  loop_after : (n left : ℕ) → left < n → (r : Step X Flow) → (state_of r).steps ≤ left
      → and_then r (λ flow. after flow (turns n test (turn body))) ≡ and_then r (λ flow. after flow (while_loop test body))
  loop_after n left ln (Gave Next t) le = bounds_alike n (suc t.steps) t (omega (arith, le, ln)) (omega arith)
  loop_after n left ln (Gave (Returned v) t) le = refl
  loop_after n left ln (Ended e t) le = refl

  loop_step : (n left : ℕ) (s : State X) → left ≤ n
      → and_then (and_then (step_of left s) (λ u. body)) (λ flow. after flow (turns n test (turn body)))
      ≡ and_then (and_then (step_of left s) (λ u. body)) (λ flow. after flow (while_loop test body))
  loop_step n zero s ln = refl
  loop_step n (suc left) s ln = loop_after n left ln (body (record s { steps = left })) (i (record s { steps = left }))

  loop_test : (n : ℕ) (r : Step X Bool) → (state_of r).steps ≤ n
      → and_then r (λ more. choose more (then_run (turn body) (turns n test (turn body))) (pure Next))
      ≡ and_then r (λ more. choose more (then_run (turn body) (while_loop test body)) (pure Next))
  loop_test n (Gave true t) le = loop_step n t.steps t le
  loop_test n (Gave false t) le = refl
  loop_test n (Ended e t) le = refl

  unrolled : (s : State X) → while_loop test body s ≡ (test >>= (λ more. choose more (then_run (turn body) (while_loop test body)) (pure Next))) s
  unrolled s = loop_test s.steps (test s) (h s)

pub loop_unrolls : (X : Type 0) (p : ProgParts) (node : ℕ) (input : List ℕ) (n : ℕ) (e : Expr) (body : Stmt)
    → LoopUnrolls X (holds (expr_of erased (context p node input n) e)) (stmt_of erased (context p node input n) body)
loop_unrolls X p node input n e body = unrolled (holds (expr_of erased cx e)) (stmt_of erased cx body)
    (λ s. condition s (expr_of erased cx e s) ((keeps-expr cx (richly 0 cx calls) (richly_erased 0 cx calls) e s).less))
    (λ s. (keeps-stmt cx (richly 0 cx calls) (richly_erased 0 cx calls) body (all_any (scalars_written body)) (all_any (arrays_written body)) s).less)
  where
    cx : Context
    cx = context p node input n

    calls : CallsRichly 0 cx
    calls = calls_richly 0 p node input n

    condition : (s : State X) (r : Step X ℤ) → (state_of r).steps ≤ s.steps → (state_of (and_then r (λ v. pure (not (is_zero v))))).steps ≤ s.steps
    condition s (Gave v t) le = le
    condition s (Ended e t) le = le
