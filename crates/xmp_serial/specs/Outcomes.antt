-- What a run comes to, by its result and its state then.
use Rattle.std.specs.Prelude.{◌≡◌, Result, Ok, Err}
use Rattle.xmp_prog.specs.declared.parts.ProgParts.{ProgParts}
use Rattle.xmp_meaning.specs.declared.ends.Flow.{Flow}
use Rattle.xmp_meaning.specs.declared.ends.Halt.{Halt}
use Rattle.xmp_meaning.specs.declared.ends.Halt.TheVariants as halt
use Rattle.xmp_meaning.specs.declared.outcome.Outcome.{Outcome}
use Rattle.xmp_meaning.specs.Runs.{State, Gave, Ended}
use Rattle.xmp_meaning.specs.Programs.{outcome_of}

abbrev pub IsOutcome : ProgParts → Result Flow Halt → State (Unit {0}) → Outcome → Type 0
IsOutcome p (Ok flow) s outcome = outcome ≡ outcome_of p (Gave flow s)
IsOutcome p (Err (halt.End e)) s outcome = outcome ≡ outcome_of p (Ended e s)
IsOutcome p (Err halt.NoMemory) s outcome = ⊥
