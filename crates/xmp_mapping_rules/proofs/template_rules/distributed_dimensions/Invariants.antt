use Rattle.std.proofs.Common.{◌≡◌, ◌≤◌, take}
use Rattle.std.specs.List.{count_by}
use Rattle.xmp_mapping_rules.specs.MappingRules.{is_distributed}
use Rattle.xmp_mapping_rules.proofs.template_rules.distributed_dimensions.Given as goal

abbrev pub invariant-forms : goal.invariant-forms
invariant-forms l = (l.count ≤ l.form-index) × (l.count ≡ count_by is_distributed (take l.form-index l.forms))
