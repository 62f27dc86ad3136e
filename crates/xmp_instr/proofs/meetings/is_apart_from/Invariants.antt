use Rattle.std.proofs.Common.{◌≡◌, drop}
use Rattle.std.specs.List.{list_all}
use Rattle.xmp_prog.specs.Numbers.{apart}
use Rattle.xmp_instr.proofs.meetings.is_apart_from.Given as goal

-- what is left to do from here gives what the whole gives
abbrev pub invariant-sets : goal.invariant-sets
invariant-sets l = list_all (apart l.set) l.fn.sets ≡ list_all (apart l.set) (drop l.other-index l.sets)
