use Rattle.xmp_move.proofs.SidesKept.{reflects_arrays}
use Rattle.xmp_move.proofs.laws.reflects_are_whole.Goals as goal

pub returns : goal.returns
returns c = reflects_arrays
