use Rattle.std.proofs.Common.{length}
use Rattle.xmp_spmd.proofs.ending.+push_rows.Given as goal

-- each call is of the rest
abbrev pub decreases-push_rows : goal.decreases-push_rows
decreases-push_rows l = length l.rows.now
