-- The keys by which an access is found: in a dimension in which it has a number, it is found by the number and by none,
-- and in another by none.
use Rattle.std.specs.Prelude.{ℕ, ◌==◌, Bool, true, false, ◌&&◌, List, ℤ, Option, Some, None}
use Rattle.std.specs.List.{list_any}
use Rattle.std.specs.Ordering.{int_eq}
use Rattle.xmp_spots.specs.declared.touches.By.{By}
use Rattle.xmp_spots.specs.declared.touches.Subscripts.{Subscripts}
use Rattle.xmp_spots.specs.declared.touches.Spot.{Spot}
use Rattle.xmp_spots.specs.declared.keys.Mark.{Mark}
use Rattle.xmp_spots.specs.declared.keys.Mark.TheVariants as mark
use Rattle.xmp_spots.specs.declared.keys.Key.{Key}
use Rattle.xmp_spots.specs.Clashes.{by_two}
use Rattle.xmp_spots.specs.Tables.{same_mark}

-- whether a dimension is found by a mark
abbrev pub enters : Option ℤ → Mark → Bool
enters None mark.Whole = true
enters None mark.Any = false
enters None (mark.Number m) = false
enters (Some n) mark.Whole = false
enters (Some n) mark.Any = true
enters (Some n) (mark.Number m) = int_eq n m

-- whether the access is found by a key, where two dimensions are chosen, one, or none
abbrev pub enters_third : Key → Option ℤ → Key → Bool
enters_third key third k =
    key.array == k.array
    && (int_eq key.on k.on && (same_mark key.first k.first && (same_mark key.second k.second && enters third k.third)))

abbrev pub enters_second : Key → Subscripts → Key → Bool
enters_second key s k =
    key.array == k.array
    && (int_eq key.on k.on && (same_mark key.first k.first && (enters s.second k.second && enters s.third k.third)))

abbrev pub enters_first : ℕ → Spot → Key → Bool
enters_first array s k =
    array == k.array
    && (int_eq s.on k.on
    && (enters s.subscripts.first k.first
    && (enters s.subscripts.second k.second && enters s.subscripts.third k.third)))

-- whether some spot is found by the key, for an image other than one of these
abbrev pub entered : ℕ → List Spot → Key → By → Bool
entered array spots k images = list_any (λ s. enters_first array s k && by_two images s.by) spots
