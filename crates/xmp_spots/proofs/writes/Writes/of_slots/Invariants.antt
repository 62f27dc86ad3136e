use Rattle.std.proofs.Common.{take}
use Rattle.xmp_spots.specs.Writes.{CountsIn}
use Rattle.xmp_spots.proofs.writes.Writes.of_slots.Given as goal

abbrev pub invariant-slots : goal.invariant-slots
invariant-slots l = CountsIn (take l.slot-index l.slots) l.writes
