use Rattle.std.proofs.Common.{length}
use Rattle.xmp_own_parts.proofs.end.+combined.Given as goal

abbrev pub decreases-combined : goal.decreases-combined
decreases-combined l = length l.reductions.now
