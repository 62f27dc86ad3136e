use Rattle.std.proofs.Common.{length}
use Rattle.xmp_move_tests.proofs.shapes.+cell_count.Given as goal

abbrev pub decreases-cell_count : goal.decreases-cell_count
decreases-cell_count l = length l.extents.now
