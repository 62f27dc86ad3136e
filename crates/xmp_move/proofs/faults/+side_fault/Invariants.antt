use Rattle.std.proofs.Common.{length}
use Rattle.xmp_move.proofs.faults.+side_fault.Given as goal

abbrev pub decreases-side_fault : goal.decreases-side_fault
decreases-side_fault l = length l.extents.now
