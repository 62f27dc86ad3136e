use Rattle.std.proofs.Common.{◌≡◌, take}
use Rattle.xmp_spots.proofs.accesses.Accesses.copy.Given as goal

-- those so far are copied
abbrev pub invariant-touches : goal.invariant-touches
invariant-touches l = l.copy ≡ take l.touch-index l.self
