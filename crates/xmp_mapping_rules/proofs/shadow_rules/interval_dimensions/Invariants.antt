use Rattle.std.proofs.Common.{◌≡◌, ◌++◌, drop}
use Rattle.std.specs.List.{flat_map, enumerate_from}
use Rattle.xmp_mapping_rules.specs.MappingRules.{interval_dimension}
use Rattle.xmp_mapping_rules.proofs.shadow_rules.interval_dimensions.Given as goal

abbrev pub invariant-points : goal.invariant-points
invariant-points l = flat_map (interval_dimension l.forms) (enumerate_from 0 l.points) ≡ l.dimensions ++ flat_map (interval_dimension l.forms) (enumerate_from l.i (drop l.i l.points))
