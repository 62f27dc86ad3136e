use Rattle.std.proofs.Common.{◌≡◌, ℕ, suc, ◌+◌, ◌-◌, ◌<◌, arith, ℤ, ap, ◌∙◌, sym, subst, refl, Bool, true, Option, Some, None, Result, Ok, Err}
use Rattle.std.specs.Int.{w32, int_wrap}
use Rattle.std.specs.Int.RustNames.{FitsSigned}
use Rattle.std.proofs.lemmas.Int.{to_z-of_z, SFits-int_wrap}
use Rattle.xmp_num.proofs.Wraps.{wrap-add}
use Rattle.xmp_meaning.specs.declared.ends.Flow.{Flow}
use Rattle.xmp_meaning.specs.declared.ends.Flow.TheVariants.{Next}
use Rattle.xmp_meaning.specs.declared.ends.Halt.{Halt}
use Rattle.xmp_meaning.specs.declared.ends.Halt.TheVariants as halt
use Rattle.xmp_meaning.specs.Runs.{State, Step, Gave, Run, Does}
use Rattle.xmp_meaning.specs.Blocks.{then_run, turns}
use Rattle.xmp_serial.specs.Turns.{Turns}

-- ---- numbers of type int

pub int_fits : (z : ℤ) → FitsSigned w32 (int_wrap w32 z)
int_fits z = SFits-int_wrap w32 z

pub ruleset steps = (int_fits, to_z-of_z, wrap-add)

-- ---- turns of loops

-- a turn fewer is left
pub one_more : {X : Type 0} {x : X} (f : ℕ → X) (n at : ℕ) → at < n → x ≡ f (n - at) → x ≡ f (suc (n - (at + 1)))
one_more f n at below e = let turn : n - at ≡ suc (n - (at + 1)) = omega arith in e ∙ ap f turn

module _ (test : Run (Unit {0}) Bool) (body : Run (Unit {0}) Flow) (old new : State (Unit {0})) where
  -- another turn follows
  pub goes_on : (r : Option Flow) → r ≡ None → Turns test body old (Ok r) new → (n : ℕ) → turns (suc n) test body old ≡ turns n test body new
  goes_on r is h = let P : Option Flow → Type 0 = λ x. Turns test body old (Ok x) new in subst P is h

  -- the loop is over
  pub is_over : (r : Option Flow) (flow : Flow) → r ≡ Some flow → Turns test body old (Ok r) new → (n : ℕ) → turns (suc n) test body old ≡ Gave flow new
  is_over r flow is h = let P : Option Flow → Type 0 = λ x. Turns test body old (Ok x) new in subst P is h

  pub halts : (h : Halt) (n : ℕ) → Turns test body old (Err h) new → Does (turns (suc n) test body old) (Err h) new
  halts (halt.End e) n f = f n
  halts halt.NoMemory n f = tt

-- who does one step does an equal one
pub done : {A : Type 0} (p q : Step (Unit {0}) A) (r : Result A Halt) (new : State (Unit {0})) → p ≡ q → Does q r new → Does p r new
done {A} p q r new e h = let P : Step (Unit {0}) A → Type 0 = λ x. Does x r new in subst P (sym e) h

-- a turn whose body ends by a step of its own
pub one_turn : (test : Run (Unit {0}) Bool) (p q : Run (Unit {0}) Flow) (n : ℕ) (s s1 s2 s3 : State (Unit {0})) (v : Bool) (flow : Flow)
    → test s ≡ Gave v s1 → v ≡ true → p s1 ≡ Gave flow s2 → flow ≡ Next → q s2 ≡ Gave Next s3
    → turns (suc n) test (then_run p q) s ≡ turns n test (then_run p q) s3
one_turn test p q n s s1 s2 s3 v flow a b c d e = rw (a, b, c, d, e) refl
