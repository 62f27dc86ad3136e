use Rattle.std.proofs.Common.{◌≡◌, drop}
use Rattle.std.specs.List.{list_all}
use Rattle.xmp_names.specs.Sizes.{is_small}
use Rattle.xmp_mapping_rules.proofs.template_rules.all_small.Given as goal

abbrev pub invariant-lowers : goal.invariant-lowers
invariant-lowers l = list_all is_small l.lowers ≡ list_all is_small (drop l.lower-index l.lowers)
