use Rattle.std.proofs.Common.{length}
use Rattle.xmp_own_parts.proofs.closing.+set_all.Given as goal

abbrev pub decreases-set_all : goal.decreases-set_all
decreases-set_all l = length l.reductions.now
