use Rattle.std.proofs.Common.{◌∙◌, ◌*◌, ◌&&◌, ap, arith, min}
use Rattle.std.specs.Prelude.{nat_lt}
use Rattle.xmp_map.specs.Spread.{sizes_fit}
use Rattle.xmp_map.specs.RowMajor.{product}
use Rattle.xmp_mapping_rules.specs.MappingRules.{copies}
use Rattle.xmp_mapping_rules.proofs.Cells.{cells_step}
use Rattle.xmp_mapping_rules.proofs.cell_rules.cell_rules.Goals as goal

pub arrays-preserved : goal.arrays-preserved
arrays-preserved c = (
  omega arith,
  c.arrays.invariant.1 ∙ cells_step c.arrays.broken c.judge.new.broken c.as_slice-arrays.result.now c.arrays.array-index c.array-item.result c.arrays.before
      (copies c.args.lines.now) c.cells_in.result c.min-cells.result c.copies-times.result c.cells_right-right.result c.arrays-test.true c.array-item.is
      (c.cells_in.ensures ∙ ap (λ l. min (product l) 4194305) c.as_slice-extents.ensures) c.min-cells.ensures c.copies-times.ensures
      (c.cells_right-right.ensures ∙ ap (λ l. sizes_fit l && nat_lt (min (c.min-cells.result * c.copies-times.result) 4194305) 4194305) c.as_slice-extents.ensures) c.in_ok-judge.ensures,
)
