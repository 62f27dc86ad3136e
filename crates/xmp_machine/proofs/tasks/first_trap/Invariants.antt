use Rattle.std.proofs.Common.{◌≡◌, ◌+◌, drop, length}
use Rattle.xmp_code.specs.Ends.{said_of_each}
use Rattle.xmp_machine.specs.Resuming.{first_trap_by, task_end_by}
use Rattle.xmp_machine.proofs.tasks.first_trap.Given as goal

-- the first trap of the tasks from here on
abbrev pub invariant-tasks : goal.invariant-tasks
invariant-tasks l = record {
  count : l.left + l._set-index ≡ length l.sets;
  found : said_of_each l.found ≡ first_trap_by (task_end_by l.known.node l.known.end l.known.heard.now) (drop l.left l.sets);
}
