use Rattle.std.proofs.Common.{◌≡◌, ◌++◌, map, drop}
use Rattle.std.specs.List.{concat}
use Rattle.xmp_meaning.specs.Writes.{arrays_written}
use Rattle.xmp_loops.specs.Written.{task_arrays}
use Rattle.xmp_loops.proofs.written.+arrays.Given as goal

-- those so far, and those of the statements that are left, are all
abbrev pub invariant-arrays_of_all-items : goal.invariant-arrays_of_all-items
invariant-arrays_of_all-items l =
    l.out ++ concat (map arrays_written (drop l.x-index l.all)) ≡ l.fn.out ++ concat (map arrays_written l.all)

abbrev pub invariant-arrays_of_tasks-items : goal.invariant-arrays_of_tasks-items
invariant-arrays_of_tasks-items l =
    l.out ++ concat (map task_arrays (drop l.task-index l.all)) ≡ l.fn.out ++ concat (map task_arrays l.all)
