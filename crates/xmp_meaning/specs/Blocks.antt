-- Parts of a run one after the other, statements in their order, and turns of a loop (ISO C11 6.8.2, 6.8.5), over
-- states of any kind.
use Rattle.std.specs.Prelude.{ℕ, zero, suc, Bool, true, false, List, [], ◌∷◌, ◌++◌}
use Rattle.xmp_meaning.specs.declared.ends.Flow.{Flow}
use Rattle.xmp_meaning.specs.declared.ends.Flow.TheVariants.{Next, Returned}
use Rattle.xmp_meaning.specs.Runs.{RunIn, ◌>>=◌, pure}

-- the values so far, and then those of the others from left to right
abbrev pub each : {S A : Type 0} → List (RunIn S A) → List A → RunIn S (List A)
each [] vs = pure vs
each (e ∷ es) vs = do
  v ← e
  each es (vs ++ v ∷ [])

-- goes on, unless the function has returned
abbrev pub after : {S : Type 0} → Flow → RunIn S Flow → RunIn S Flow
after Next q = q
after (Returned v) q = pure (Returned v)

-- one statement, and then another
abbrev pub then_run : {S : Type 0} → RunIn S Flow → RunIn S Flow → RunIn S Flow
then_run p q = do
  flow ← p
  after flow q

-- statements in their order
abbrev pub block : {S : Type 0} → List (RunIn S Flow) → RunIn S Flow
block [] = pure Next
block (p ∷ ps) = then_run p (block ps)

-- the first where the test holds, else the second
abbrev pub choose : {S A : Type 0} → Bool → RunIn S A → RunIn S A → RunIn S A
choose true p q = p
choose false p q = q

-- At most so many turns: the test comes before each, and the loop ends where it fails.
abbrev pub turns : {S : Type 0} → ℕ → RunIn S Bool → RunIn S Flow → RunIn S Flow
turns zero test body = pure Next
turns (suc n) test body = do
  more ← test
  choose more (then_run body (turns n test body)) (pure Next)
