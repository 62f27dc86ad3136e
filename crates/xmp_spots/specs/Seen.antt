-- What the nearest refusals are to some images.
use Rattle.std.specs.Prelude.{Option, Some, if◌then◌else◌}
use Rattle.xmp_base.specs.declared.refusal.Refusal.{Refusal}
use Rattle.xmp_spots.specs.declared.touches.By.{By}
use Rattle.xmp_spots.specs.declared.nearest.Nearest.{Nearest}
use Rattle.xmp_spots.specs.Clashes.{by_two}

-- the first refusal that is for an image other than one of these
abbrev pub seen_by : Nearest → By → Option Refusal
seen_by n images = if by_two images n.by then Some n.first else n.other
