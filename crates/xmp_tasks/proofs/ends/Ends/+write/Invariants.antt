use Rattle.std.proofs.Common.{length}
use Rattle.xmp_tasks.proofs.ends.Ends.+write.Given as goal

-- each call is of the rest
abbrev pub decreases-write : goal.decreases-write
decreases-write l = length l.tasks.now
