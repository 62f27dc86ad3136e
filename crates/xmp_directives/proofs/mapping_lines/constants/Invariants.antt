use Rattle.std.proofs.Common.{◌≡◌, ◌-◌, drop, length}
use Rattle.xmp_names.specs.Walk.{each, each_after, constant}
use Rattle.xmp_names.specs.Lists.{parts}
use Rattle.xmp_directives.proofs.mapping_lines.constants.Given as goal

abbrev pub invariant-list : goal.invariant-list
invariant-list l = each constant (parts l.list) l.fn.world ≡ each_after constant l.values (drop (length l.values) (parts l.list)) l.world

abbrev pub decreases-list : goal.decreases-list
decreases-list l = length (parts l.list) - length l.values
