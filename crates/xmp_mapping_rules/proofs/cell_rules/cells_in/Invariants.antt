use Rattle.std.proofs.Common.{◌≡◌, ◌+◌, ◌*◌, ◌≤◌, drop, min}
use Rattle.xmp_map.specs.RowMajor.{product}
use Rattle.xmp_names.specs.Sizes.{most_cells}
use Rattle.xmp_mapping_rules.proofs.cell_rules.cells_in.Given as goal

abbrev pub invariant-extents : goal.invariant-extents
invariant-extents l = (l.product ≤ most_cells + 1) × (min (product l.extents) (most_cells + 1) ≡ min (l.product * product (drop l.extent-index l.extents)) (most_cells + 1))
