-- Spots of the same cells, as one.
use Rattle.std.specs.Prelude.{◌==◌, Bool, true, false, ◌&&◌, if◌then◌else◌, List, [], ◌∷◌, fold, ℤ, Option, Some, None}
use Rattle.std.specs.Ordering.{int_eq}
use Rattle.xmp_spots.specs.declared.touches.By.{By}
use Rattle.xmp_spots.specs.declared.touches.By.TheVariants.{One, Several}
use Rattle.xmp_spots.specs.declared.touches.Spot.{Spot}

abbrev pub same_number : Option ℤ → Option ℤ → Bool
same_number None None = true
same_number None (Some y) = false
same_number (Some x) None = false
same_number (Some x) (Some y) = int_eq x y

-- whether two spots are of the same cells
abbrev pub same_cells : Spot → Spot → Bool
same_cells s t =
    int_eq s.on t.on
    && (same_number s.subscripts.first t.subscripts.first
    && (same_number s.subscripts.second t.subscripts.second && same_number s.subscripts.third t.subscripts.third))

-- the images of both
abbrev pub both_by : By → By → By
both_by (One a) (One b) = if a == b then One a else Several
both_by (One a) Several = Several
both_by Several b = Several

-- one spot more: where there is one of the same cells, the images of both touch that
abbrev pub with_spot : List Spot → Spot → List Spot
with_spot [] s = s ∷ []
with_spot (t ∷ spots) s =
    if same_cells t s then record t { by = both_by t.by s.by } ∷ spots else t ∷ with_spot spots s

-- the spots, those of the same cells as one
abbrev pub gathered : List Spot → List Spot
gathered spots = fold with_spot [] spots
