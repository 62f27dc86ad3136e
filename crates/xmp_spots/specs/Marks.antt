-- Marks of a dimension.
use Rattle.std.specs.Prelude.{ℤ, Option, Some, None}
use Rattle.xmp_spots.specs.declared.keys.Mark.{Mark}
use Rattle.xmp_spots.specs.declared.keys.Mark.TheVariants as mark

-- the number, where there is one
abbrev pub number_mark : Option ℤ → Mark
number_mark None = mark.Whole
number_mark (Some n) = mark.Number n

-- what is asked beside `Whole`: the number, or any where there is none
abbrev pub asked_mark : Option ℤ → Mark
asked_mark None = mark.Any
asked_mark (Some n) = mark.Number n
