use Rattle.std.proofs.Common.{◌≡◌, drop}
use Rattle.std.specs.List.{list_any}
use Rattle.xmp_instr.specs.Meetings.{tells}
use Rattle.xmp_machine.proofs.saying.tells_any.Given as goal

-- what is left to do from here gives what the whole gives
abbrev pub invariant-sets : goal.invariant-sets
invariant-sets l = list_any (tells l.from l.to) l.fn.sets ≡ list_any (tells l.from l.to) (drop l.set-index l.sets)
