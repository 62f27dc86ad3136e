use Rattle.std.proofs.Common.{length}
use Rattle.xmp_tasks.proofs.ends.Ends.+end_words.Given as goal

-- each call is of the rest
abbrev pub decreases-end_words : goal.decreases-end_words
decreases-end_words l = length l.tasks.now
