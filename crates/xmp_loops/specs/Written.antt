-- What the tasks of a statement write.
use Rattle.std.specs.Prelude.{ℕ, List}
use Rattle.xmp_prog.specs.declared.statements.Task.{Task}
use Rattle.xmp_prog.specs.declared.statements.Stmt.TheFolds.{fold-Task}
use Rattle.xmp_meaning.specs.Writes.{scalars_step, arrays_step, written_in_task}

-- the scalars and the arrays that the statement of a task writes
abbrev pub task_scalars : Task → List ℕ
task_scalars = fold-Task (List ℕ) (List ℕ) scalars_step written_in_task

abbrev pub task_arrays : Task → List ℕ
task_arrays = fold-Task (List ℕ) (List ℕ) arrays_step written_in_task
