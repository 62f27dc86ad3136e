use Rattle.xmp_ring.proofs.Moves.{pops}
use Rattle.xmp_ring.proofs.ends.Receiver.take.Goals as goal

pub try_pop_as-requires-clause-rule : goal.try_pop_as-requires-clause-rule
try_pop_as-requires-clause-rule g c = pops _ _ _ c.self.invariant.1 c.self.invariant.2
