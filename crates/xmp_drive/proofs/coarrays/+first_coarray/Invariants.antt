use Rattle.std.proofs.Common.{length}
use Rattle.xmp_drive.proofs.coarrays.+first_coarray.Given as goal

abbrev pub decreases-first_coarray : goal.decreases-first_coarray
decreases-first_coarray l = length l.arrays.now
