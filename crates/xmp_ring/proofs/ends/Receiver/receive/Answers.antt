use Rattle.xmp_ring.proofs.Entries.{received-there}
use Rattle.xmp_ring.proofs.ends.Receiver.receive.Goals as goal

pub returns-in-Some-take : goal.returns-in-Some-take
returns-in-Some-take g c = record { received = received-there g.S.Streams.stream _ _ _ _ c.loop.invariant c.in-Some-take.ensures }
