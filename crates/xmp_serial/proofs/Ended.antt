use Rattle.std.proofs.Common.{◌≡◌, ℕ, List, Option, None, Result, Ok, Err, ap, ◌∙◌, sym, subst, length}
use Rattle.std.specs.Prelude.{IfOk}
use Rattle.xmp_base.specs.declared.refusal.NoMemory.{NoMemory}
use Rattle.xmp_prog.specs.declared.parts.ProgParts.{ProgParts}
use Rattle.xmp_meaning.specs.declared.ends.Flow.{Flow}
use Rattle.xmp_meaning.specs.declared.ends.Halt.{Halt}
use Rattle.xmp_meaning.specs.declared.ends.Halt.TheVariants as halt
use Rattle.xmp_meaning.specs.declared.outcome.Outcome.{Outcome}
use Rattle.xmp_meaning.specs.Runs.{State, Step, Does}
use Rattle.xmp_meaning.specs.Layouts.{Whole}
use Rattle.xmp_meaning.specs.Calls.{call_of}
use Rattle.xmp_meaning.specs.Handlers.{erased}
use Rattle.xmp_meaning.specs.Programs.{beginning, outcome_of, program, serial}
use Rattle.xmp_serial.specs.Lines.{context_at, layout_of}
use Rattle.xmp_serial.specs.Outcomes.{IsOutcome}

-- what a run that does a step comes to is what the step comes to
same_outcome : (p : ProgParts) (step : Step (Unit {0}) Flow) (ended : Result Flow Halt) (s : State (Unit {0})) (o : Outcome)
    → Does step ended s → IsOutcome p ended s o → o ≡ outcome_of p step
same_outcome p step (Ok flow) s o d h = h ∙ ap (outcome_of p) (sym d)
same_outcome p step (Err (halt.End e)) s o d h = h ∙ ap (outcome_of p) (sym d)
same_outcome p step (Err halt.NoMemory) s o d h = absurd h

pub is_serial : (p q : ProgParts) (packed : Option ℕ) (input : List ℕ) (steps : ℕ) (s new : State (Unit {0})) (ended : Result Flow Halt) (r : Result Outcome NoMemory)
    → q ≡ p → packed ≡ None → s ≡ beginning (layout_of packed) q steps tt
    → Does (program erased (context_at q packed 0 input (call_of q 0 (length q.functions))) s) ended new
    → IfOk r (λ o. IsOutcome p ended new o) → IfOk r (λ o. o ≡ serial p input steps)
is_serial p q packed input steps s new ended (Ok o) is none b d h =
    let P : ProgParts → Type 0 = λ x. Does (program erased (context_at x packed 0 input (call_of x 0 (length x.functions))) s) ended new in
    let Q : Option ℕ → Type 0 = λ x. Does (program erased (context_at p x 0 input (call_of p 0 (length p.functions))) s) ended new in
    let R : State (Unit {0}) → Type 0 = λ x. Does (program erased (context_at p None 0 input (call_of p 0 (length p.functions))) x) ended new in
    let first : s ≡ beginning Whole p steps tt = b ∙ ap (λ (x : ProgParts). beginning (layout_of packed) x steps tt) is ∙ ap (λ (x : Option ℕ). beginning (layout_of x) p steps tt) none in
    same_outcome p (program erased (context_at p None 0 input (call_of p 0 (length p.functions))) (beginning Whole p steps tt)) ended new o (subst R first (subst Q none (subst P is d))) h
is_serial p q packed input steps s new ended (Err x) is none b d h = h
