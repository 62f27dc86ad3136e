use Rattle.std.proofs.Common.{length}
use Rattle.xmp_world.proofs.bases.+box_count.Given as goal

abbrev pub decreases-box_count : goal.decreases-box_count
decreases-box_count l = length l.extents.now
