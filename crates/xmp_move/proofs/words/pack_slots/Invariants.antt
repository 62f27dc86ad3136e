use Rattle.std.proofs.Common.{◌≡◌, take}
use Rattle.xmp_move.specs.Stores.{packed}
use Rattle.xmp_move.proofs.words.pack_slots.Given as goal

abbrev pub invariant-loop-s : goal.invariant-loop-s
invariant-loop-s l = l.words ≡ packed l.store (take l.s-index l.slots)
