use Rattle.std.proofs.Common.{◌≡◌, drop, ◌++◌}
use Rattle.xmp_directives.specs.Directives.{made_points}
use Rattle.xmp_directives.proofs.loop_lines.made_points.Given as goal

-- what is left to do from here gives what the whole gives
abbrev pub invariant-points : goal.invariant-points
invariant-points l = made_points l.lowers 0 l.fn.points ≡ l.done ++ made_points l.lowers l.k (drop l.k l.points)
