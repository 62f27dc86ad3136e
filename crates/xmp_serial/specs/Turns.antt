-- Turns of loops, one at a time.
use Rattle.std.specs.Prelude.{◌≡◌, ◌-ℤ◌, ◌+ℤ◌, ℕ, ℤ, pos, suc, Bool, if◌then◌else◌, Option, Some, None, Result, Ok, Err}
use Rattle.xmp_prog.specs.declared.statements.Stmt.{Stmt}
use Rattle.xmp_prog.specs.declared.statements.Task.{Task}
use Rattle.xmp_prog.specs.declared.statements.Stmt.TheFolds.{fold-Task}
use Rattle.xmp_meaning.specs.declared.ends.Flow.{Flow}
use Rattle.xmp_meaning.specs.declared.ends.Halt.{Halt}
use Rattle.xmp_meaning.specs.declared.ends.Halt.TheVariants as halt
use Rattle.xmp_meaning.specs.Runs.{State, Step, Gave, Ended, Run}
use Rattle.xmp_meaning.specs.Context.{Context}
use Rattle.xmp_meaning.specs.Handlers.{TaskRun, erased}
use Rattle.xmp_meaning.specs.Blocks.{turns}
use Rattle.xmp_meaning.specs.Statements.{stmt_of, stmt_step, task_step}

-- One turn of a loop, whichever number of turns may follow it: another one follows, or the loop is over.
abbrev pub Turns : {X : Type 0} → Run X Bool → Run X Flow → State X → Result (Option Flow) Halt → State X → Type 0
Turns test body old (Ok None) new = (n : ℕ) → turns (suc n) test body old ≡ turns n test body new
Turns test body old (Ok (Some flow)) new = (n : ℕ) → turns (suc n) test body old ≡ Gave flow new
Turns test body old (Err (halt.End e)) new = (n : ℕ) → turns (suc n) test body old ≡ Ended e new
Turns test body old (Err halt.NoMemory) new = Unit {0}

-- what a statement does with its directives erased
abbrev pub run_of : Context → Stmt → Run (Unit {0}) Flow
run_of cx s = stmt_of erased cx s

-- a task, and what its statement does
abbrev pub task_of : Context → Task → TaskRun (Unit {0})
task_of cx t = fold-Task (Run (Unit {0}) Flow) (TaskRun (Unit {0})) (stmt_step erased cx) task_step t

-- how far a bound is above the first value of an index
abbrev pub gap : ℤ → ℤ → Bool → ℤ
gap from to inclusive = (to -ℤ from) +ℤ pos (if inclusive then 1 else 0)
