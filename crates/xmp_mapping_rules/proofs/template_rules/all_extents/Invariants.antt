use Rattle.std.proofs.Common.{◌≡◌, drop}
use Rattle.std.specs.List.{list_all}
use Rattle.xmp_names.specs.Sizes.{is_extent}
use Rattle.xmp_mapping_rules.proofs.template_rules.all_extents.Given as goal

abbrev pub invariant-sizes : goal.invariant-sizes
invariant-sizes l = list_all (is_extent) l.sizes ≡ list_all (is_extent) (drop l.size-index l.sizes)
