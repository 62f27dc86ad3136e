use Rattle.std.proofs.Common.{sym, ap}
use Rattle.xmp_map.specs.RowMajor.{product}
use Rattle.xmp_move_tests.proofs.Cells.{some_product}
use Rattle.xmp_move_tests.proofs.shapes.+cell_count.Goals as goal

pub returns-in-None : goal.returns-in-None
unfolding product
returns-in-None t c = sym (ap product c.in-None.ensures)

pub returns-in_ok-cell_count-in-Some : goal.returns-in_ok-cell_count-in-Some
returns-in_ok-cell_count-in-Some t c =
    some_product c.times.result c.in-Some.extent.now c.in_ok-cell_count-in-Some.field-0 c.in-Some.behind.now c.args.extents.now c.in-Some.ensures c.in_ok-cell_count-in-Some.ensures c.times.ensures
