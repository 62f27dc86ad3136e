use Rattle.std.proofs.Common.{length}
use Rattle.xmp_move.proofs.axis.+singles_total.Given as goal

abbrev pub decreases-singles_total : goal.decreases-singles_total
decreases-singles_total l = length l.axes.now
