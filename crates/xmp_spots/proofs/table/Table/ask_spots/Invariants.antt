use Rattle.std.proofs.Common.{◌≡◌, take}
use Rattle.xmp_spots.specs.Asking.{asked_spots}
use Rattle.xmp_spots.proofs.table.Table.ask_spots.Given as goal

abbrev pub invariant-spots : goal.invariant-spots
invariant-spots l = l.found ≡ asked_spots l.self l.array (take l.spot-index l.spots)
