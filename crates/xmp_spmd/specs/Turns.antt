-- Turns of loops, one at a time, of any state.
use Rattle.std.specs.Prelude.{◌≡◌, ◌≢◌, ℕ, suc, Bool, Option, Some, None, Result, Ok, Err}
use Rattle.xmp_meaning.specs.declared.ends.Flow.{Flow}
use Rattle.xmp_meaning.specs.declared.ends.Flow.TheVariants.{Next}
use Rattle.xmp_meaning.specs.declared.ends.Halt.{Halt}
use Rattle.xmp_meaning.specs.declared.ends.Halt.TheVariants as halt
use Rattle.xmp_meaning.specs.Runs.{StepIn, Gave, Ended, RunIn}
use Rattle.xmp_meaning.specs.Blocks.{turns}

-- One turn of a loop, whichever number of turns may follow it: another one follows, or the loop is over.
abbrev pub Turns : {S : Type 0} → RunIn S Bool → RunIn S Flow → S → Result (Option Flow) Halt → S → Type 0
Turns test body old (Ok None) new = (n : ℕ) → turns (suc n) test body old ≡ turns n test body new
Turns test body old (Ok (Some flow)) new = (n : ℕ) → turns (suc n) test body old ≡ Gave flow new
Turns test body old (Err (halt.End e)) new = (n : ℕ) → turns (suc n) test body old ≡ Ended e new
Turns test body old (Err halt.NoMemory) new = Unit {0}

-- What stands at the end of a turn gives no flow, and another turn follows; or it gives one, which ends the loop.
abbrev pub Ups : {S : Type 0} → StepIn S Flow → Result (Option Flow) Halt → S → Type 0
Ups step (Ok None) new = step ≡ Gave Next new
Ups step (Ok (Some flow)) new = (step ≡ Gave flow new) × (flow ≢ Next)
Ups step (Err (halt.End e)) new = step ≡ Ended e new
Ups step (Err halt.NoMemory) new = Unit {0}
