-- What a table finds at a key.
use Rattle.std.specs.Prelude.{◌==◌, Bool, true, false, ◌&&◌, Option, Some, None}
use Rattle.std.specs.Ordering.{int_eq}
use Rattle.std.specs.Map.{lookup}
use Rattle.xmp_base.specs.declared.refusal.Refusal.{Refusal}
use Rattle.xmp_spots.specs.declared.touches.By.{By}
use Rattle.xmp_spots.specs.declared.keys.Mark.{Mark}
use Rattle.xmp_spots.specs.declared.keys.Mark.TheVariants as mark
use Rattle.xmp_spots.specs.declared.keys.Key.{Key}
use Rattle.xmp_spots.specs.declared.nearest.Nearest.{Nearest}
use Rattle.xmp_spots.specs.declared.table.Table.{Table}
use Rattle.xmp_spots.specs.Seen.{seen_by}

abbrev pub same_mark : Mark → Mark → Bool
same_mark mark.Whole mark.Whole = true
same_mark mark.Whole mark.Any = false
same_mark mark.Whole (mark.Number m) = false
same_mark mark.Any mark.Whole = false
same_mark mark.Any mark.Any = true
same_mark mark.Any (mark.Number m) = false
same_mark (mark.Number n) mark.Whole = false
same_mark (mark.Number n) mark.Any = false
same_mark (mark.Number n) (mark.Number m) = int_eq n m

abbrev pub same_key : Key → Key → Bool
same_key a b =
    a.array == b.array
    && (int_eq a.on b.on && (same_mark a.first b.first && (same_mark a.second b.second && same_mark a.third b.third)))

-- the first refusal of these that is for an image other than one of those
abbrev pub seen_in : Option Nearest → By → Option Refusal
seen_in None images = None
seen_in (Some n) images = seen_by n images

-- the first refusal at the key that is for an image other than one of these
abbrev pub found : Table → Key → By → Option Refusal
found table key images = seen_in (lookup (same_key key) table.nearest.entries) images
