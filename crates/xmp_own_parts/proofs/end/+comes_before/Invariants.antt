use Rattle.std.proofs.Common.{length}
use Rattle.xmp_own_parts.proofs.end.+comes_before.Given as goal

abbrev pub decreases-comes_before : goal.decreases-comes_before
decreases-comes_before l = length l.a.now
