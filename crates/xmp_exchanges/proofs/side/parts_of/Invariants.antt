use Rattle.std.proofs.Common.{◌≡◌, take, map}
use Rattle.xmp_exchanges.specs.Aims.{part_of}
use Rattle.xmp_exchanges.proofs.side.parts_of.Given as goal

abbrev pub invariant-parts : goal.invariant-parts
invariant-parts l = l.all ≡ map part_of (take l.part-index l.parts)
