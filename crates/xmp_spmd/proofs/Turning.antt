-- Turns of loops, over states of any kind.
use Rattle.std.proofs.Common.{◌≡◌, ℕ, suc, ◌+◌, ◌-◌, ◌<◌, arith, ap, ◌∙◌, sym, subst, refl, Bool, true, Option, Some, None, Result, Ok, Err}
use Rattle.xmp_meaning.specs.declared.ends.Flow.{Flow}
use Rattle.xmp_meaning.specs.declared.ends.Flow.TheVariants.{Next, Returned}
use Rattle.xmp_meaning.specs.declared.ends.Halt.{Halt}
use Rattle.xmp_meaning.specs.declared.ends.Halt.TheVariants as halt
use Rattle.xmp_meaning.specs.Runs.{StepIn, Gave, RunIn, Does}
use Rattle.xmp_meaning.specs.Blocks.{then_run, turns}
use Rattle.xmp_spmd.specs.Turns.{Turns, Ups}

-- a turn fewer is left
pub one_more : {X : Type 0} {x : X} (f : ℕ → X) (n at : ℕ) → at < n → x ≡ f (n - at) → x ≡ f (suc (n - (at + 1)))
one_more f n at below e = let turn : n - at ≡ suc (n - (at + 1)) = omega arith in e ∙ ap f turn

module _ {S : Type 0} (test : RunIn S Bool) (body : RunIn S Flow) (old new : S) where
  -- another turn follows
  pub goes_on : (r : Option Flow) → r ≡ None → Turns test body old (Ok r) new → (n : ℕ) → turns (suc n) test body old ≡ turns n test body new
  goes_on r is h = let P : Option Flow → Type 0 = λ x. Turns test body old (Ok x) new in subst P is h

  -- the loop is over
  pub is_over : (r : Option Flow) (flow : Flow) → r ≡ Some flow → Turns test body old (Ok r) new → (n : ℕ) → turns (suc n) test body old ≡ Gave flow new
  is_over r flow is h = let P : Option Flow → Type 0 = λ x. Turns test body old (Ok x) new in subst P is h

  pub halts : (h : Halt) (n : ℕ) → Turns test body old (Err h) new → Does (turns (suc n) test body old) (Err h) new
  halts (halt.End e) n f = f n
  halts halt.NoMemory n f = tt

-- who does one step does an equal one
pub done : {S A : Type 0} (p q : StepIn S A) (r : Result A Halt) (new : S) → p ≡ q → Does q r new → Does p r new
done {S} {A} p q r new e h = let P : StepIn S A → Type 0 = λ x. Does x r new in subst P (sym e) h

-- a turn, by how its end goes
pub turned : {S : Type 0} (test : RunIn S Bool) (p q : RunIn S Flow) (s s1 s2 s3 : S) (v : Bool) (flow : Flow) (r : Result (Option Flow) Halt)
    → test s ≡ Gave v s1 → v ≡ true → p s1 ≡ Gave flow s2 → flow ≡ Next → Ups (q s2) r s3 → Turns test (then_run p q) s r s3
turned test p q s s1 s2 s3 v flow (Ok None) a b c d u = λ n. rw (a, b, c, d, u) refl
turned test p q s s1 s2 s3 v flow (Ok (Some Next)) a b c d u = absurd (u.1 refl)
turned test p q s s1 s2 s3 v flow (Ok (Some (Returned value))) a b c d u = let e = u.0 in λ n. rw (a, b, c, d, e) refl
turned test p q s s1 s2 s3 v flow (Err (halt.End e)) a b c d u = λ n. rw (a, b, c, d, u) refl
turned test p q s s1 s2 s3 v flow (Err halt.NoMemory) a b c d u = tt
