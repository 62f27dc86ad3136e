use Rattle.std.proofs.Common.{length}
use Rattle.xmp_stores.proofs.counts.+raise_from.Given as goal

-- each call is of the rest
abbrev pub decreases-raise_from : goal.decreases-raise_from
decreases-raise_from l = length l.turns.now
