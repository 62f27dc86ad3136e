use Rattle.std.proofs.Common.{length}
use Rattle.xmp_exchanges.proofs.unpacking.+deliver.Given as goal

abbrev pub decreases-deliver : goal.decreases-deliver
decreases-deliver l = length l.tables.now
