use Rattle.std.proofs.Common.{◌≡◌, drop, ◌++◌}
use Rattle.xmp_directives.specs.Directives.{slots_of_points}
use Rattle.xmp_directives.proofs.indices.slots_of_points.Given as goal

-- what is left to do from here gives what the whole gives
abbrev pub invariant-points : goal.invariant-points
invariant-points l = slots_of_points l.fn.points ≡ l.done ++ slots_of_points (drop l.point-index l.points)
