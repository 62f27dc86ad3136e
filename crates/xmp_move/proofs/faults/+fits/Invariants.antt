use Rattle.std.proofs.Common.{length}
use Rattle.xmp_move.proofs.faults.+fits.Given as goal

abbrev pub decreases-fits : goal.decreases-fits
decreases-fits l = length l.source.now
