use Rattle.std.proofs.Common.{length}
use Rattle.xmp_stores.proofs.counts.+say_from.Given as goal

-- each call is of the rest
abbrev pub decreases-say_from : goal.decreases-say_from
decreases-say_from g l = length l.rows.now
