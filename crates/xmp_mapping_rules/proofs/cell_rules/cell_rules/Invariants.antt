use Rattle.std.proofs.Common.{◌≡◌, ◌+◌, ◌++◌, ◌≤◌, drop}
use Rattle.xmp_names.specs.Sizes.{most_cells}
use Rattle.xmp_mapping_rules.specs.MappingRules.{cells_from, copies}
use Rattle.xmp_mapping_rules.proofs.cell_rules.cell_rules.Given as goal

abbrev pub invariant-arrays : goal.invariant-arrays
invariant-arrays l = (l.before ≤ most_cells + 1) × (l.fn.broken ++ cells_from (copies l.lines) 0 l.arrays ≡ l.broken ++ cells_from (copies l.lines) l.before (drop l.array-index l.arrays))
