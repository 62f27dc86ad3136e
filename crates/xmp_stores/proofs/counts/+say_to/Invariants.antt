use Rattle.std.proofs.Common.{length}
use Rattle.xmp_stores.proofs.counts.+say_to.Given as goal

-- each call is of the rest
abbrev pub decreases-say_to : goal.decreases-say_to
decreases-say_to g l = length l.row.now
