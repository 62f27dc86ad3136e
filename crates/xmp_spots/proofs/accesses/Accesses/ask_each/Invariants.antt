use Rattle.std.proofs.Common.{take}
use Rattle.xmp_base.specs.First.{IsFirst}
use Rattle.xmp_spots.specs.Races.{ClashBetween}
use Rattle.xmp_spots.proofs.accesses.Accesses.ask_each.Given as goal

abbrev pub invariant-touches : goal.invariant-touches
invariant-touches l = IsFirst (ClashBetween (take l.touch-index l.touches) l.self) l.found
