use Rattle.std.proofs.Common.{◌≡◌, ◌+◌, ◌≤◌, drop}
use Rattle.std.specs.List.{count_by}
use Rattle.xmp_instr.specs.Meetings.{tells}
use Rattle.xmp_machine.proofs.saying.told_tasks.Given as goal

-- what was counted, and what the rest gives, is all
abbrev pub invariant-sets : goal.invariant-sets
invariant-sets l = record {
  all : count_by (tells l.from l.to) l.fn.sets ≡ l.count + count_by (tells l.from l.to) (drop l.set-index l.sets);
  most : l.count ≤ l.set-index;
}
