use Rattle.std.proofs.Common.{◌≡◌, ◌++◌, drop}
use Rattle.xmp_directives.specs.Directives.{ranges}
use Rattle.xmp_directives.proofs.directives.ranges.Given as goal

-- what is left to do from here gives what the whole gives
abbrev pub invariant-sizes : goal.invariant-sizes
invariant-sizes l = ranges l.sizes l.pieces ≡ l.done ++ ranges (drop l.i l.sizes) (drop l.i l.pieces)
