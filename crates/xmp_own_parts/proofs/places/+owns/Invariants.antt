use Rattle.std.proofs.Common.{length}
use Rattle.xmp_own_parts.proofs.places.+owns.Given as goal

abbrev pub decreases-owns : goal.decreases-owns
decreases-owns l = length l.spread.now
