use Rattle.std.proofs.Common.{length}
use Rattle.xmp_own_parts.proofs.walking.+set_indices.Given as goal

abbrev pub decreases-set_indices : goal.decreases-set_indices
decreases-set_indices l = length l.heads.now
