use Rattle.std.proofs.Common.{length}
use Rattle.xmp_tasks.proofs.own.OwnTasks.+each.Given as goal

-- each call is of the rest
abbrev pub decreases-each : goal.decreases-each
decreases-each l = length l.tasks.now
