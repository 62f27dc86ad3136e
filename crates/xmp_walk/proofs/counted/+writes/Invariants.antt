use Rattle.std.proofs.Common.{◌≡◌, map, drop}
use Rattle.xmp_walk.specs.Counted.{any, is_kept, task_writes_any, writes_any}
use Rattle.xmp_walk.proofs.counted.+writes.Given as goal

-- what is left to do from here gives what the whole gives
abbrev pub invariant-some_writes-items : goal.invariant-some_writes-items
invariant-some_writes-items l = any (map (writes_any (is_kept l.index l.to)) l.fn.all) ≡ any (map (writes_any (is_kept l.index l.to)) (drop l.s-index l.all))

-- what is left to do from here gives what the whole gives
abbrev pub invariant-some_task_writes-items : goal.invariant-some_task_writes-items
invariant-some_task_writes-items l = any (map (task_writes_any (is_kept l.index l.to)) l.fn.all) ≡ any (map (task_writes_any (is_kept l.index l.to)) (drop l.task-index l.all))
