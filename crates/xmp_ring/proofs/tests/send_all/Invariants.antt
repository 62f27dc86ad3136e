use Rattle.std.proofs.Common.{◌≡◌, ◌++◌, map}
use Rattle.xmp_ring.specs.declared.received.Received.TheVariants.{Data}
use Rattle.xmp_ring.proofs.tests.send_all.Given as goal

-- the messages so far were put, and the others follow
abbrev pub invariant-loop-m : goal.invariant-loop-m
invariant-loop-m g l =
    (l.sender.ring ≡ l.fn.sender.ring) × (l.sender.entries ≡ map Data l.yielded) × (l.yielded ++ l.m-iterator.rest.items ≡ l.fn.messages.items)
