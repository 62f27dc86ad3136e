use Rattle.std.proofs.Common.{◌≡◌, drop}
use Rattle.xmp_prog.specs.Numbers.{apart, pairwise}
use Rattle.xmp_instr.proofs.meetings.are_disjoint.Given as goal

-- what is left to do from here gives what the whole gives
abbrev pub invariant-sets : goal.invariant-sets
invariant-sets l = pairwise apart l.fn.sets ≡ pairwise apart (drop l.k l.sets)
