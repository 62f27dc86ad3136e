use Rattle.std.proofs.Common.{length}
use Rattle.xmp_move.proofs.axis.+singles_pass.Given as goal

abbrev pub decreases-singles_pass : goal.decreases-singles_pass
decreases-singles_pass l = length l.axes.now
