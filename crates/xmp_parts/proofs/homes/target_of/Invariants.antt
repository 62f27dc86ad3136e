use Rattle.std.proofs.Common.{◌≡◌, drop}
use Rattle.xmp_parts.specs.Parts.{held_points, target_from}
use Rattle.xmp_parts.proofs.homes.target_of.Given as goal

abbrev pub invariant-points : goal.invariant-points
invariant-points l = target_from l.d 0 (held_points l.lowers 0 l.points) ≡ target_from l.d l.k (held_points l.lowers l.k (drop l.k l.points))
