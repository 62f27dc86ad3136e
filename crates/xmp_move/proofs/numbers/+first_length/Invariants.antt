use Rattle.std.proofs.Common.{length}
use Rattle.xmp_move.proofs.numbers.+first_length.Given as goal

abbrev pub decreases-first_length : goal.decreases-first_length
decreases-first_length l = length l.parts.now
