use Rattle.std.proofs.Common.{◌≡◌, drop}
use Rattle.xmp_prog.specs.Numbers.{apart}
use Rattle.xmp_instr.proofs.meetings.are_apart.Given as goal

-- what is left to do from here gives what the whole gives
abbrev pub invariant-set : goal.invariant-set
invariant-set l = apart l.fn.a l.b ≡ apart (drop l.n-index l.a) l.b
