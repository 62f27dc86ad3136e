use Rattle.std.proofs.Common.{◌≡◌, ◌++◌, drop}
use Rattle.xmp_meaning.specs.Programs.{told}
use Rattle.xmp_serial.proofs.outcome.told.Given as goal

abbrev pub invariant-arrays : goal.invariant-arrays
invariant-arrays l = told l.p l.arrays l.fn.rows ≡ l.all ++ told l.p (drop l.a-index l.arrays) l.left
