use Rattle.std.proofs.Common.{length}
use Rattle.xmp_own_parts.proofs.places.+axis_of.Given as goal

abbrev pub decreases-axis_of : goal.decreases-axis_of
decreases-axis_of l = length l.spread.now
