use Rattle.std.proofs.Common.{◌≡◌, take}
use Rattle.xmp_move.specs.Stores.{write_all}
use Rattle.xmp_exchanges.proofs.unpacking.write_slots.Given as goal

abbrev pub invariant-loop-k : goal.invariant-loop-k
invariant-loop-k l = l.store ≡ write_all l.initial.store (take l.k l.slots) (take l.k l.words)
