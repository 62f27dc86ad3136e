-- Which accesses of a coarray are of one cell on behalf of two images. Source: this project, after XcalableMP 1.4, coarrays.
use Rattle.std.specs.Prelude.{◌==◌, Bool, true, not, ◌&&◌, ◌||◌, ℤ, Option, Some, None}
use Rattle.std.specs.List.{list_any}
use Rattle.std.specs.Ordering.{int_eq}
use Rattle.xmp_spots.specs.declared.touches.By.{By}
use Rattle.xmp_spots.specs.declared.touches.By.TheVariants.{One, Several}
use Rattle.xmp_spots.specs.declared.touches.Subscripts.{Subscripts}
use Rattle.xmp_spots.specs.declared.touches.Spot.{Spot}
use Rattle.xmp_spots.specs.declared.touches.Touch.{Touch}

-- whether one image is of these and another of those
abbrev pub by_two : By → By → Bool
by_two (One a) (One b) = not (a == b)
by_two (One a) Several = true
by_two Several b = true

-- whether two subscripts of a dimension may be one: unless both are numbers, and differ
abbrev pub may_agree : Option ℤ → Option ℤ → Bool
may_agree (Some x) (Some y) = int_eq x y
may_agree (Some x) None = true
may_agree None b = true

-- whether they may be one in each dimension
abbrev pub may_be_one : Subscripts → Subscripts → Bool
may_be_one a b = may_agree a.first b.first && (may_agree a.second b.second && may_agree a.third b.third)

-- whether two images touch one cell by these
abbrev pub spots_clash : Spot → Spot → Bool
spots_clash s t = by_two s.by t.by && (int_eq s.on t.on && may_be_one s.subscripts t.subscripts)

-- two accesses of one coarray, of which one writes, are of one cell on behalf of two images
abbrev pub clash : Touch → Touch → Bool
clash a b =
    a.array == b.array && ((a.writes || b.writes) && list_any (λ s. list_any (spots_clash s) b.spots) a.spots)
