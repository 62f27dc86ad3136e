use Rattle.std.proofs.Common.{◌≡◌, ◌-◌, drop, length}
use Rattle.xmp_names.specs.Walk.{each, each_after}
use Rattle.xmp_names.specs.Lists.{parts}
use Rattle.xmp_directives.specs.Directives.{point_of}
use Rattle.xmp_directives.proofs.loop_lines.points_of.Given as goal

-- what is left to do from here gives what the whole gives
abbrev pub invariant-list : goal.invariant-list
invariant-list l = each point_of (parts l.list) l.fn.world ≡ each_after point_of l.done (drop (length l.done) (parts l.list)) l.world

abbrev pub decreases-list : goal.decreases-list
decreases-list l = length (parts l.list) - length l.done
