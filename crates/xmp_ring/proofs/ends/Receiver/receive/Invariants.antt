use Rattle.std.proofs.Common.{◌≡◌}
use Rattle.xmp_ring.proofs.ends.Receiver.receive.Given as goal

abbrev pub invariant-loop : goal.invariant-loop
invariant-loop g l = l.self ≡ l.initial.self
