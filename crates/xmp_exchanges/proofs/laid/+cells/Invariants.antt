use Rattle.std.proofs.Common.{length}
use Rattle.xmp_exchanges.proofs.laid.+cells.Given as goal

abbrev pub decreases-cells : goal.decreases-cells
decreases-cells l = length l.extents.now
