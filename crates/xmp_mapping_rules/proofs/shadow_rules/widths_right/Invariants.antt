use Rattle.std.proofs.Common.{◌≡◌, drop}
use Rattle.std.specs.List.{list_all, enumerate_from}
use Rattle.xmp_mapping_rules.specs.MappingRules.{width_right}
use Rattle.xmp_mapping_rules.proofs.shadow_rules.widths_right.Given as goal

abbrev pub invariant-widths : goal.invariant-widths
invariant-widths l = list_all (width_right l.dimensions) (enumerate_from 0 l.widths) ≡ list_all (width_right l.dimensions) (enumerate_from l.i (drop l.i l.widths))
