use Rattle.std.proofs.Common.{◌≡◌, drop}
use Rattle.xmp_prog.specs.Numbers.{is_in}
use Rattle.xmp_machine.proofs.saying.is_in.Given as goal

-- what is left to do from here gives what the whole gives
abbrev pub invariant-set : goal.invariant-set
invariant-set l = is_in l.fn.set l.n ≡ is_in (drop l.k-index l.set) l.n
