use Rattle.std.proofs.Common.{◌≡◌, drop}
use Rattle.xmp_mapping_rules.specs.MappingRules.{forms_right}
use Rattle.xmp_mapping_rules.proofs.template_rules.forms_right.Given as goal

abbrev pub invariant-forms : goal.invariant-forms
invariant-forms l = forms_right l.forms l.sizes l.nodes ≡ forms_right (drop l.i l.forms) (drop l.i l.sizes) l.left
