use Rattle.std.proofs.Common.{length}
use Rattle.xmp_move.proofs.numbers.+behind.Given as goal

abbrev pub decreases-behind : goal.decreases-behind
decreases-behind l = length l.parts.now
