use Rattle.std.proofs.Common.{length}
use Rattle.xmp_first.proofs.first_value.+continued.Given as goal

abbrev pub decreases-continued : goal.decreases-continued
decreases-continued l = length l.items.now
