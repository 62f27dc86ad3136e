use Rattle.std.proofs.Common.{length}
use Rattle.xmp_stores.proofs.beginning.+push_states.Given as goal

-- each call is of the rest
abbrev pub decreases-push_states : goal.decreases-push_states
decreases-push_states l = length l.layouts.now
