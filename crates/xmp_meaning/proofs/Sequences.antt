-- Parts of a run one after the other.
use Rattle.std.proofs.Common.{◌≡◌, ◌+◌, ◌++◌, ℕ, zero, suc, Bool, true, false, [], ◌∷◌, refl, sym, ap, ◌∙◌, arith}
use Rattle.xmp_meaning.specs.declared.ends.Flow.{Flow}
use Rattle.xmp_meaning.specs.declared.ends.Flow.TheVariants.{Next, Returned}
use Rattle.xmp_meaning.specs.Runs.{StepIn, Gave, Ended, RunIn, and_then, pure}
use Rattle.xmp_meaning.specs.Blocks.{after, then_run, block, choose, turns}
use Rattle.xmp_meaning.specs.Laws.{IsAssociative, StatementsAssociate, BlocksJoin, TurnsAdd, EndsAreFinal}

steps_associate : {S A B C : Type 0} (r : StepIn S A) (f : A → RunIn S B) (g : B → RunIn S C)
    → and_then (and_then r f) g ≡ and_then r (λ a s. and_then (f a s) g)
steps_associate (Gave a s) f g = refl
steps_associate (Ended e s) f g = refl

pub associative : (S A B C : Type 0) → IsAssociative S A B C
associative S A B C p f g s = steps_associate (p s) f g

-- what follows both, by what the first statement gave
pub flows_associate : {S : Type 0} (r : StepIn S Flow) (q t : RunIn S Flow)
    → and_then (and_then r (λ flow. after flow q)) (λ flow. after flow t) ≡ and_then r (λ flow. after flow (then_run q t))
flows_associate (Gave Next s) q t = refl
flows_associate (Gave (Returned v) s) q t = refl
flows_associate (Ended e s) q t = refl

pub statements_associate : (S : Type 0) → StatementsAssociate S
statements_associate S p q r s = flows_associate (p s) q r

-- what follows a flow, where what follows `Next` is the same
pub same_after : {S : Type 0} (r : StepIn S Flow) (q t : RunIn S Flow) → ((s : S) → q s ≡ t s)
    → and_then r (λ flow. after flow q) ≡ and_then r (λ flow. after flow t)
same_after (Gave Next s) q t same = same s
same_after (Gave (Returned v) s) q t same = refl
same_after (Ended e s) q t same = refl

pub blocks_join : (S : Type 0) → BlocksJoin S
blocks_join S [] qs s = refl
blocks_join S (p ∷ ps) qs s =
    same_after (p s) (block (ps ++ qs)) (then_run (block ps) (block qs)) (blocks_join S ps qs)
    ∙ sym (flows_associate (p s) (block ps) (block qs))

no_more_turns : (S : Type 0) (m : ℕ) (test : RunIn S Bool) (body : RunIn S Flow) (t : S) → test t ≡ Gave false t → turns m test body t ≡ Gave Next t
no_more_turns S zero test body t e = refl
no_more_turns S (suc m) test body t e = ap (λ r. and_then r (λ more. choose more (then_run body (turns m test body)) (pure Next))) e

pub turns_add : (S : Type 0) → TurnsAdd S
turns_add S zero m test body stays s = ap (λ (k : ℕ). turns k test body s) (let e : zero + m ≡ m = omega arith in e)
turns_add S (suc n) m test body stays s =
    ap (λ (k : ℕ). turns k test body s) (let e : suc n + m ≡ suc (n + m) = omega arith in e) ∙ at_test (turns_add S n m test body stays) (test s) refl
  where
    at_test : ((t : S) → turns (n + m) test body t ≡ then_run (turns n test body) (turns m test body) t) → (r : StepIn S Bool) → test s ≡ r
        → and_then r (λ more. choose more (then_run body (turns (n + m) test body)) (pure Next))
        ≡ and_then (and_then r (λ more. choose more (then_run body (turns n test body)) (pure Next))) (λ flow. after flow (turns m test body))
    at_test rest (Gave true t) e =
        same_after (body t) (turns (n + m) test body) (then_run (turns n test body) (turns m test body)) rest
        ∙ sym (flows_associate (body t) (turns n test body) (turns m test body))
    at_test rest (Gave false t) e = sym (no_more_turns S m test body t (stays s t e))
    at_test rest (Ended end t) e = refl

pub ends_are_final : (S A B : Type 0) → EndsAreFinal S A B
ends_are_final S A B p f s t e is = ap (λ r. and_then r f) is
