use Rattle.std.proofs.Common.{◌≡◌, take}
use Rattle.xmp_spots.specs.declared.touches.By.{By}
use Rattle.xmp_spots.specs.declared.keys.Key.{Key}
use Rattle.xmp_spots.specs.Nearest.{noted}
use Rattle.xmp_spots.specs.Tables.{found}
use Rattle.xmp_spots.specs.Entering.{entered}
use Rattle.xmp_spots.proofs.table.Table.note_spots.Given as goal

abbrev pub invariant-spots : goal.invariant-spots
invariant-spots l =
    (k : Key) (q : By) → found l.self k q ≡ noted (entered l.array (take l.spot-index l.spots) k q) l.refusal (found l.initial.self k q)
