use Rattle.xmp_ring.proofs.Moves.{pushes}
use Rattle.xmp_ring.proofs.ends.put.Goals as goal

pub try_push_as-requires-clause-rule : goal.try_push_as-requires-clause-rule
try_push_as-requires-clause-rule g c = pushes _ _ _ _ _ c.requires.sends c.requires.receives c.requires.piece
