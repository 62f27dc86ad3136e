use Rattle.xmp_move.proofs.SidesKept.{sides_are_kept, cells_are_owned, owners_hold}
use Rattle.xmp_move.proofs.laws.cells_are_kept.Goals as goal

pub returns : goal.returns
returns c = record { kept = sides_are_kept; owned = cells_are_owned; held = owners_hold }
