use Rattle.std.proofs.Common.{◌≡◌, ◌+◌, ◌*◌, ◌≤◌, drop, min}
use Rattle.xmp_names.specs.Sizes.{most_cells}
use Rattle.xmp_mapping_rules.specs.MappingRules.{node_product}
use Rattle.xmp_mapping_rules.proofs.nodes_rules.node_product.Given as goal

abbrev pub invariant-sizes : goal.invariant-sizes
invariant-sizes l = (l.product ≤ most_cells + 1) × (min (node_product l.sizes) (most_cells + 1) ≡ min (l.product * node_product (drop l.size-index l.sizes)) (most_cells + 1))
