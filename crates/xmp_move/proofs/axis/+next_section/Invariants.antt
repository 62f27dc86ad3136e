use Rattle.std.proofs.Common.{length}
use Rattle.xmp_move.proofs.axis.+next_section.Given as goal

abbrev pub decreases-next_section : goal.decreases-next_section
decreases-next_section l = length l.axes.now
