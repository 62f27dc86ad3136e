use Rattle.std.proofs.Common.{◌≡◌, drop}
use Rattle.std.specs.List.{list_all}
use Rattle.xmp_directives.specs.Directives.{is_small_point}
use Rattle.xmp_directives.proofs.indices.all_small.Given as goal

-- what is left to do from here gives what the whole gives
abbrev pub invariant-points : goal.invariant-points
invariant-points l = list_all is_small_point l.fn.points ≡ list_all is_small_point (drop l.point-index l.points)
