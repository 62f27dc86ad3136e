use Rattle.std.proofs.Common.{length}
use Rattle.xmp_exchanges.proofs.laid.+agree.Given as goal

abbrev pub decreases-agree : goal.decreases-agree
decreases-agree l = length l.dims.now
