use Rattle.std.proofs.Common.{length}
use Rattle.xmp_stores.proofs.together.Together.+others.Given as goal

-- each call is of the rest
abbrev pub decreases-others : goal.decreases-others
decreases-others g l = length l.stores.now
