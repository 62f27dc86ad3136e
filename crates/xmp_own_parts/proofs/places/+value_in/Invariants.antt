use Rattle.std.proofs.Common.{length}
use Rattle.xmp_own_parts.proofs.places.+value_in.Given as goal

abbrev pub decreases-value_in : goal.decreases-value_in
decreases-value_in l = length l.heads.now
