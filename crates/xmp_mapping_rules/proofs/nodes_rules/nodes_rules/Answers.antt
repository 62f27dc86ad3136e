use Rattle.std.proofs.Common.{◌∙◌}
use Rattle.xmp_mapping_rules.specs.MappingRules.{nodes_rule}
use Rattle.xmp_mapping_rules.proofs.Enumerated.{part_step}
use Rattle.xmp_mapping_rules.proofs.nodes_rules.nodes_rules.Goals as goal

pub lines-preserved : goal.lines-preserved
lines-preserved c =
    c.lines.invariant ∙ part_step (nodes_rule c.args.w.now) c.as_slice-lines.result.now c.lines.i c.index-lines-i.result c.lines.broken c.nodes_rule.new.broken c.lines-test.true
    c.index-lines-i.is c.in_ok-nodes_rule.ensures
