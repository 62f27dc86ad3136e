use Rattle.std.proofs.Common.{◌≡◌, drop}
use Rattle.xmp_directives.specs.Directives.{ranges_right}
use Rattle.xmp_directives.proofs.directives.ranges_right.Given as goal

-- what is left to do from here gives what the whole gives
abbrev pub invariant-sizes : goal.invariant-sizes
invariant-sizes l = ranges_right l.sizes l.ranges ≡ ranges_right (drop l.i l.sizes) (drop l.i l.ranges)
