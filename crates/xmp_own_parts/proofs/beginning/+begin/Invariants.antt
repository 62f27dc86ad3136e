use Rattle.std.proofs.Common.{length}
use Rattle.xmp_own_parts.proofs.beginning.+begin.Given as goal

abbrev pub decreases-begin : goal.decreases-begin
decreases-begin l = length l.reductions.now
