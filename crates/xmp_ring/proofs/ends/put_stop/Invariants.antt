use Rattle.std.proofs.Common.{◌≡◌}
use Rattle.crossbeam_queue.specs.Passes.{view as known, IsPassOf}
use Rattle.xmp_ring.proofs.ends.put_stop.Given as goal

-- the pass is the queue's, and knows what it knew
abbrev pub invariant-loop : goal.invariant-loop
invariant-loop g l = IsPassOf l.queue l.pass × (known l.pass ≡ known l.initial.pass)
