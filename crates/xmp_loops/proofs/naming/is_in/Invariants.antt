use Rattle.std.proofs.Common.{◌≡◌, drop}
use Rattle.xmp_prog.specs.Numbers.{is_in}
use Rattle.xmp_loops.proofs.naming.is_in.Given as goal

-- the numbers that are left decide
abbrev pub invariant-items : goal.invariant-items
invariant-items l = is_in l.ns l.n ≡ is_in (drop l.m-index l.ns) l.n
