use Rattle.std.proofs.Common.{◌≡◌}
use Rattle.xmp_ring.proofs.ends.Sender.send.Given as goal

abbrev pub invariant-loop : goal.invariant-loop
invariant-loop g l = (l.self ≡ l.initial.self) × (l.entry ≡ l.initial.entry)
