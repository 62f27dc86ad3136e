use Rattle.std.proofs.Common.{length}
use Rattle.xmp_tasks.proofs.ends.Ends.+first.Given as goal

-- each call is of the rest
abbrev pub decreases-first : goal.decreases-first
decreases-first l = length l.tasks.now
