use Rattle.std.proofs.Common.{length}
use Rattle.xmp_own_parts.proofs.places.+chosen_or.Given as goal

abbrev pub decreases-chosen_or : goal.decreases-chosen_or
decreases-chosen_or l = length l.heads.now
