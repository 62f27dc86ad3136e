use Rattle.std.proofs.Common.{length}
use Rattle.xmp_move_tests.proofs.codes.+ask_for.Given as goal

abbrev pub decreases-ask_for : goal.decreases-ask_for
decreases-ask_for l = length l.parts.now
