use Rattle.std.proofs.Common.{◌≡◌, drop}
use Rattle.xmp_instr.specs.Valid.{rises}
use Rattle.xmp_instr.proofs.meetings.rises.Given as goal

-- what is left to do from here gives what the whole gives
abbrev pub invariant-set : goal.invariant-set
invariant-set l = rises l.nodes 0 l.fn.set ≡ rises l.nodes l.least (drop l.k-index l.set)
