use Rattle.std.proofs.Common.{◌≡◌, ◌-◌, drop, length}
use Rattle.xmp_names.specs.Walk.{each, each_after}
use Rattle.xmp_names.specs.Lists.{parts}
use Rattle.xmp_directives.specs.MappingLines.{align_point}
use Rattle.xmp_directives.proofs.align_lines.align_points.Given as goal

abbrev pub invariant-list : goal.invariant-list
invariant-list l = each (align_point l.known) (parts l.list) l.fn.world ≡ each_after (align_point l.known) l.points (drop (length l.points) (parts l.list)) l.world

abbrev pub decreases-list : goal.decreases-list
decreases-list l = length (parts l.list) - length l.points
