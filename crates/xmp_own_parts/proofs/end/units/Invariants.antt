use Rattle.std.proofs.Common.{◌≡◌, ◌++◌, drop}
use Rattle.xmp_meaning.specs.LoopEnds.{units}
use Rattle.xmp_own_parts.proofs.end.units.Given as goal

abbrev pub invariant-reductions : goal.invariant-reductions
invariant-reductions l = units l.p l.reductions ≡ l.values ++ units l.p (drop l.r-index l.reductions)
