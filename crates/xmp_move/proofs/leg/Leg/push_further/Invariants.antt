use Rattle.std.proofs.Common.{◌≡◌, ◌++◌, take}
use Rattle.xmp_move.specs.Legs.{leg_adds, adds_further}
use Rattle.xmp_move.proofs.leg.Leg.push_further.Given as goal

abbrev pub invariant-loop-k : goal.invariant-loop-k
invariant-loop-k l = l.out.items ≡ l.fn.out.items ++ adds_further (leg_adds l.self) l.to l.further (take l.k-index l.places)
