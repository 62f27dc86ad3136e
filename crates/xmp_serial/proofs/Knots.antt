use Rattle.std.proofs.Common.{◌≡◌, ◌==◌, ◌<◌, ◌≤◌, ℕ, ℤ, zero, suc, pos, List, [], Bool, true, false, Option, Some, None, Result, Ok, Err, refl, ap, ◌∙◌, sym, subst, arith, slice_get, if◌then◌else◌}
use Rattle.std.proofs.lemmas.Bool.{ne_eqb}
use Rattle.std.proofs.lemmas.Bool.Decides.{eqb_tells}
use Rattle.std.proofs.Common.{inl, inr, eq-eqb}
use Rattle.xmp_prog.specs.declared.parts.ProgParts.{ProgParts}
use Rattle.xmp_prog.specs.declared.parts.Function.{Function}
use Rattle.xmp_meaning.specs.declared.ends.Halt.{Halt}
use Rattle.xmp_meaning.specs.Runs.{State, Step, Gave, Does}
use Rattle.xmp_meaning.specs.Expressions.{after_call}
use Rattle.xmp_meaning.specs.Layouts.{Whole}
use Rattle.xmp_meaning.specs.Calls.{call_of, context_with, frame, invoke, invoke_some}
use Rattle.xmp_serial.specs.Ends.{Tells}

module _ (p : ProgParts) (node k : ℕ) (vs : List ℤ) (steps : ℕ) where
  -- a call of a function that isn't among the first ones does nothing
  call_over : (d : ℕ) → d ≤ k → call_of p node d k vs steps ≡ Gave (pos 0) (frame p steps)
  unfolding call_of
  call_over zero h = refl
  call_over (suc n) h =
      let other : k ≡ n → ⊥ = omega arith in
      let less : n ≤ k = omega arith in
      rw (ne_eqb k n other) (call_over n less)

  -- a call of one of the first ones is its statement, which calls those before it
  call_at : (d : ℕ) → k < d → call_of p node d k vs steps
      ≡ invoke_some (context_with p Whole node [] (call_of p node k)) (slice_get p.functions k) vs (frame p steps)
  unfolding call_of
  call_at zero h = absurd (omega arith)
  call_at (suc n) h = elim (eqb_tells k n) [
    | inl e ↦ rw e.0 (ap (λ (m : ℕ). invoke_some (context_with p Whole node [] (call_of p node m)) (slice_get p.functions m) vs (frame p steps)) (sym e.1))
    | inr e ↦ (let less : k < n = omega (arith, e.1) in rw e.0 (call_at n less))
  ]

  module _ (d : ℕ) where
    pub tells_over : d ≤ k → Tells (call_of p node d k vs steps) (Ok (pos 0)) steps
    tells_over h s = ap (after_call s) (call_over d h)

    pub tells_none : k < d → ◌≡◌ {A = Option Function} None (slice_get p.functions k) → Tells (call_of p node d k vs steps) (Ok (pos 0)) steps
    tells_none h none s = ap (after_call s) (call_at d h)
        ∙ ap (λ (o : Option Function). after_call s (invoke_some (context_with p Whole node [] (call_of p node k)) o vs (frame p steps))) (sym none)

    pub tells_at : (f : Function) (r : Result ℤ Halt) (left : ℕ) → k < d → Some f ≡ slice_get p.functions k
        → Tells (invoke (context_with p Whole node [] (call_of p node k)) f vs (frame p steps)) r left → Tells (call_of p node d k vs steps) r left
    tells_at f r left h some t s =
        let P : Step (Unit {0}) ℤ → Type 0 = λ x. Does (after_call s x) r (record s { steps = left }) in
        let Q : Option Function → Type 0 = λ o. Does (after_call s (invoke_some (context_with p Whole node [] (call_of p node k)) o vs (frame p steps))) r (record s { steps = left }) in
        subst P (sym (call_at d h)) (subst Q some (t s))
