use Rattle.std.proofs.Common.{◌≡◌, ◌++◌, drop}
use Rattle.std.specs.List.{flat_map, enumerate_from}
use Rattle.xmp_mapping_rules.specs.MappingRules.{nodes_rule}
use Rattle.xmp_mapping_rules.proofs.nodes_rules.nodes_rules.Given as goal

abbrev pub invariant-lines : goal.invariant-lines
invariant-lines l = l.fn.broken ++ flat_map (nodes_rule l.w) (enumerate_from 0 l.lines) ≡ l.broken ++ flat_map (nodes_rule l.w) (enumerate_from l.i (drop l.i l.lines))
