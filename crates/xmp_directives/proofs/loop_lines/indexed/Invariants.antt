use Rattle.std.proofs.Common.{◌≡◌, map, drop, ◌++◌}
use Rattle.xmp_directives.specs.Directives.{is_indexed}
use Rattle.xmp_directives.proofs.loop_lines.indexed.Given as goal

-- what is left to do from here gives what the whole gives
abbrev pub invariant-points : goal.invariant-points
invariant-points l = map is_indexed l.fn.points ≡ l.done ++ map is_indexed (drop l.point-index l.points)
