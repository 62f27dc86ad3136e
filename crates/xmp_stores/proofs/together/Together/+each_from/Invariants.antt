use Rattle.std.proofs.Common.{length}
use Rattle.xmp_stores.proofs.together.Together.+each_from.Given as goal

-- each call is of the rest
abbrev pub decreases-each_from : goal.decreases-each_from
decreases-each_from g l = length l.stores.now
