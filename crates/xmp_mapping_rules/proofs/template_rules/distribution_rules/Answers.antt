use Rattle.std.proofs.Common.{◌∙◌}
use Rattle.xmp_mapping_rules.specs.MappingRules.{distribution_rule}
use Rattle.xmp_mapping_rules.proofs.Enumerated.{part_step}
use Rattle.xmp_mapping_rules.proofs.template_rules.distribution_rules.Goals as goal

pub list-preserved : goal.list-preserved
list-preserved c =
    c.list.invariant ∙ part_step (distribution_rule c.args.lines.now) c.as_slice-list.result.now c.list.i c.index-list-i.result c.list.broken c.distribution_rule.new.broken c.list-test.true
    c.index-list-i.is c.in_ok-distribution_rule.ensures
