use Rattle.std.proofs.Common.{◌≡◌, ◌++◌, drop}
use Rattle.xmp_races.proofs.loops.copies.Given as goal

abbrev pub invariant-loops : goal.invariant-loops
invariant-loops l = l.all ++ drop l.l-index l.loops ≡ l.fn.all ++ l.loops
