use Rattle.std.proofs.Common.{◌∙◌}
use Rattle.xmp_mapping_rules.specs.MappingRules.{template_rule}
use Rattle.xmp_mapping_rules.proofs.Enumerated.{part_step}
use Rattle.xmp_mapping_rules.proofs.template_rules.template_rules.Goals as goal

pub list-preserved : goal.list-preserved
list-preserved c =
    c.list.invariant ∙ part_step (template_rule c.args.lines.now) c.as_slice-list.result.now c.list.i c.index-list-i.result c.list.broken c.template_rule.new.broken c.list-test.true
    c.index-list-i.is c.in_ok-template_rule.ensures
