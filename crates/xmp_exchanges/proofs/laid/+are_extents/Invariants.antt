use Rattle.std.proofs.Common.{length}
use Rattle.xmp_exchanges.proofs.laid.+are_extents.Given as goal

abbrev pub decreases-are_extents : goal.decreases-are_extents
decreases-are_extents l = length l.extents.now
