use Rattle.std.proofs.Common.{length}
use Rattle.xmp_spmd.proofs.words.+push_stores.Given as goal

-- each call is of the rest
abbrev pub decreases-push_stores : goal.decreases-push_stores
decreases-push_stores l = length l.stores.now
