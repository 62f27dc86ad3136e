use Rattle.std.proofs.Common.{length}
use Rattle.xmp_tasks.proofs.ends.Ends.+bytes.Given as goal

-- each call is of the rest
abbrev pub decreases-bytes : goal.decreases-bytes
decreases-bytes l = length l.tasks.now
