use Rattle.std.proofs.Common.{◌≡◌, ◌++◌, take, map}
use Rattle.xmp_serial.specs.Moves.{chosen_of}
use Rattle.xmp_exchanges.specs.Aims.{flat}
use Rattle.xmp_exchanges.proofs.numbers.push_all.Given as goal

abbrev pub invariant-parts : goal.invariant-parts
invariant-parts l = l.all ≡ l.initial.all ++ flat (map chosen_of (take l.chosen-index l.parts))
