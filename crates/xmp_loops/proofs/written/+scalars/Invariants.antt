use Rattle.std.proofs.Common.{◌≡◌, ◌++◌, map, drop}
use Rattle.std.specs.List.{concat}
use Rattle.xmp_meaning.specs.Writes.{scalars_written}
use Rattle.xmp_loops.specs.Written.{task_scalars}
use Rattle.xmp_loops.proofs.written.+scalars.Given as goal

-- those so far, and those of the statements that are left, are all
abbrev pub invariant-scalars_of_all-items : goal.invariant-scalars_of_all-items
invariant-scalars_of_all-items l =
    l.out ++ concat (map scalars_written (drop l.x-index l.all)) ≡ l.fn.out ++ concat (map scalars_written l.all)

abbrev pub invariant-scalars_of_tasks-items : goal.invariant-scalars_of_tasks-items
invariant-scalars_of_tasks-items l =
    l.out ++ concat (map task_scalars (drop l.task-index l.all)) ≡ l.fn.out ++ concat (map task_scalars l.all)
