use Rattle.xmp_move.proofs.Checks.{traps_as_meant}
use Rattle.xmp_move.proofs.PairsMeant.{moves_as_meant}
use Rattle.xmp_move.proofs.laws.gmoves_are_meant.Goals as goal

pub returns : goal.returns
returns t c = record {
  traps = λ h cx target source. traps_as_meant h cx target source;
  moves = λ h cx target source. moves_as_meant h cx target source;
}
