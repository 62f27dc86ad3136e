use Rattle.std.proofs.Common.{length}
use Rattle.xmp_exchanges.proofs.laid.+asked_of.Given as goal

abbrev pub decreases-asked_of : goal.decreases-asked_of
decreases-asked_of l = length l.parts.now
