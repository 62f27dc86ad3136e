-- A body for each tuple of a list, piece by piece.
use Rattle.std.proofs.Common.{◌≡◌, ◌+◌, ◌++◌, ℕ, ℤ, List, [], ◌∷◌, length, drop, Result, Err, refl, sym, subst, ap, ◌∙◌}
use Rattle.xmp_meaning.specs.declared.ends.Flow.{Flow}
use Rattle.xmp_meaning.specs.declared.ends.Flow.TheVariants.{Next, Returned}
use Rattle.xmp_meaning.specs.declared.ends.Halt.{Halt}
use Rattle.xmp_meaning.specs.declared.ends.Halt.TheVariants as halt
use Rattle.xmp_meaning.specs.Runs.{State, Step, Gave, Ended, Run, Does, and_then, pure}
use Rattle.xmp_meaning.specs.Blocks.{after, then_run}
use Rattle.xmp_meaning.proofs.Sequences.{flows_associate, same_after}
use Rattle.xmp_meaning_laws.specs.Tuples.{at_tuple, for_each}
use Rattle.xmp_own_parts.specs.declared.nest.Nest.{Nest}
use Rattle.xmp_own_parts.specs.Nests.{own_from}

-- who does one step does an equal one
pub done : {A : Type 0} (p q : Step (Unit {0}) A) (r : Result A Halt) (new : State (Unit {0})) → p ≡ q → Does q r new → Does p r new
done {A} p q r new e h = let P : Step (Unit {0}) A → Type 0 = λ x. Does x r new in subst P (sym e) h

module _ (slots : List ℕ) (body : Run (Unit {0}) Flow) where
  each_onto : (xs ys : List (List ℤ)) (s : State (Unit {0})) → for_each slots (xs ++ ys) body s ≡ then_run (for_each slots xs body) (for_each slots ys body) s
  each_onto [] ys s = refl
  each_onto (x ∷ xs) ys s =
      same_after (body (at_tuple slots x s)) (for_each slots (xs ++ ys) body) (then_run (for_each slots xs body) (for_each slots ys body)) (each_onto xs ys)
      ∙ sym (flows_associate (body (at_tuple slots x s)) (for_each slots xs body) (for_each slots ys body))

  -- one piece went by, or was the last
  pub went : (xs ys : List (List ℤ)) (s t : State (Unit {0})) (flow : Flow) → flow ≡ Next → for_each slots xs body s ≡ Gave flow t
      → for_each slots (xs ++ ys) body s ≡ for_each slots ys body t
  went xs ys s t flow is e =
      each_onto xs ys s ∙ ap (λ r. and_then r (λ flow. after flow (for_each slots ys body))) e ∙ ap (λ f. after f (for_each slots ys body) t) is

  pub returned : (xs ys : List (List ℤ)) (s t : State (Unit {0})) (flow : Flow) (v : ℤ) → flow ≡ Returned v → for_each slots xs body s ≡ Gave flow t
      → for_each slots (xs ++ ys) body s ≡ Gave (Returned v) t
  returned xs ys s t flow v is e =
      each_onto xs ys s ∙ ap (λ r. and_then r (λ flow. after flow (for_each slots ys body))) e ∙ ap (λ f. after f (for_each slots ys body) t) is

  pub halted : (xs ys : List (List ℤ)) (s t : State (Unit {0})) (h : Halt) → Does (for_each slots xs body s) (Err h) t → Does (for_each slots (xs ++ ys) body s) (Err h) t
  halted xs ys s t (halt.End end) e = each_onto xs ys s ∙ ap (λ r. and_then r (λ flow. after flow (for_each slots ys body))) e
  halted xs ys s t halt.NoMemory e = tt

  -- a single tuple, or none
  pub single : (vs : List ℤ) (s : State (Unit {0})) → for_each slots (vs ∷ []) body s ≡ body (at_tuple slots vs s)
  single vs s = at_step (body (at_tuple slots vs s))
    where
      at_step : (r : Step (Unit {0}) Flow) → and_then r (λ flow. after flow (pure Next)) ≡ r
      at_step (Gave Next t) = refl
      at_step (Gave (Returned v) t) = refl
      at_step (Ended end t) = refl

-- what is known of a turn, for equal values chosen
pub moved : (nest : Nest) (P : List (List ℤ) → Type 0) (chosen other : List ℤ) (v w : ℤ) → chosen ≡ other → v ≡ w
    → P (own_from nest (chosen ++ v ∷ []) (drop (length chosen + 1) nest.heads.now)) → P (own_from nest (other ++ w ∷ []) (drop (length other + 1) nest.heads.now))
moved nest P chosen other v w e f h =
    let Q : List ℤ → Type 0 = λ vs. P (own_from nest (vs ++ v ∷ []) (drop (length vs + 1) nest.heads.now)) in
    let R : ℤ → Type 0 = λ z. P (own_from nest (other ++ z ∷ []) (drop (length other + 1) nest.heads.now)) in
    subst R f (subst Q e h)
