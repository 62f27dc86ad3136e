-- What a table finds for an access.
use Rattle.std.specs.Prelude.{ℕ, List, ℤ, Option, None, fold}
use Rattle.xmp_base.specs.declared.refusal.Refusal.{Refusal}
use Rattle.xmp_base.specs.First.{first_of}
use Rattle.xmp_spots.specs.declared.touches.Spot.{Spot}
use Rattle.xmp_spots.specs.declared.keys.Mark.{Mark}
use Rattle.xmp_spots.specs.declared.keys.Mark.TheVariants as mark
use Rattle.xmp_spots.specs.declared.table.Table.{Table}
use Rattle.xmp_spots.specs.Marks.{asked_mark}
use Rattle.xmp_spots.specs.Tables.{found}

-- the first of what is found at a dimension's two marks
abbrev pub over : Option ℤ → (Mark → Option Refusal) → Option Refusal
over number at_mark = first_of (at_mark mark.Whole) (at_mark (asked_mark number))

-- at all keys of a spot
abbrev pub asked_spot : Table → ℕ → Spot → Option Refusal
asked_spot table array s =
    over s.subscripts.first (λ a. over s.subscripts.second (λ b. over s.subscripts.third (λ c.
    found table (record { array = array; on = s.on; first = a; second = b; third = c }) s.by)))

-- at those of all spots
abbrev pub asked_spots : Table → ℕ → List Spot → Option Refusal
asked_spots table array spots = fold (λ x s. first_of x (asked_spot table array s)) None spots
