use Rattle.std.proofs.Common.{◌≡◌, ◌++◌, drop}
use Rattle.std.specs.List.{flat_map, enumerate_from}
use Rattle.xmp_mapping_rules.specs.MappingRules.{distribution_rule}
use Rattle.xmp_mapping_rules.proofs.template_rules.distribution_rules.Given as goal

abbrev pub invariant-list : goal.invariant-list
invariant-list l = l.fn.broken ++ flat_map (distribution_rule l.lines) (enumerate_from 0 l.list) ≡ l.broken ++ flat_map (distribution_rule l.lines) (enumerate_from l.i (drop l.i l.list))
