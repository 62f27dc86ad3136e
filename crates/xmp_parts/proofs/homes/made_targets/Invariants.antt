use Rattle.std.proofs.Common.{◌≡◌, ◌++◌, drop}
use Rattle.xmp_parts.specs.Parts.{held_points, targets, targets_from}
use Rattle.xmp_parts.proofs.homes.made_targets.Given as goal

abbrev pub invariant-extents : goal.invariant-extents
invariant-extents l = targets l.extents (held_points l.lowers 0 l.points) ≡ l.made ++ targets_from l.d (drop l.d l.extents) (held_points l.lowers 0 l.points)
