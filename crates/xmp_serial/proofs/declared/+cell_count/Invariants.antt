use Rattle.std.proofs.Common.{length}
use Rattle.xmp_serial.proofs.declared.+cell_count.Given as goal

abbrev pub decreases-cell_count : goal.decreases-cell_count
decreases-cell_count l = length l.extents.now
