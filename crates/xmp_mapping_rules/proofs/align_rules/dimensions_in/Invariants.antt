use Rattle.std.proofs.Common.{◌≡◌, ◌++◌, drop}
use Rattle.std.specs.List.{flat_map}
use Rattle.xmp_mapping_rules.specs.MappingRules.{dimension_in}
use Rattle.xmp_mapping_rules.proofs.align_rules.dimensions_in.Given as goal

abbrev pub invariant-points : goal.invariant-points
invariant-points l = flat_map dimension_in l.points ≡ l.dimensions ++ flat_map dimension_in (drop l.point-index l.points)
