-- The numbers of a gmove: those of the target, then those of the source, dimension by dimension (this project).
use Rattle.std.specs.Prelude.{ℕ, ℤ, List, [], ◌∷◌, drop}
use Rattle.std.specs.List.{sum_by}
use Rattle.xmp_meaning.specs.Sections.{Chosen, One, Many}
use Rattle.xmp_move.specs.declared.kind.SidePart.{SidePart}
use Rattle.xmp_move.specs.declared.kind.SidePart.TheVariants as part
use Rattle.xmp_move.specs.declared.kind.Side.{Side}

-- how many numbers a part takes
abbrev pub asked : SidePart → ℕ
asked part.One = 1
asked part.Many = 3

-- how many a side takes
abbrev pub asked_of : Side → ℕ
asked_of side = sum_by asked side.parts

-- what these numbers choose, dimension by dimension; numbers that are left are the other side's
abbrev pub chosen_by : List SidePart → List ℤ → List Chosen
chosen_by [] numbers = []
chosen_by (part.One ∷ ps) [] = []
chosen_by (part.One ∷ ps) (v ∷ rest) = One v ∷ chosen_by ps rest
chosen_by (part.Many ∷ ps) (base ∷ length ∷ step ∷ rest) = Many base length step ∷ chosen_by ps rest
chosen_by (part.Many ∷ ps) _ = []

-- what the numbers of a gmove choose on its target's side, and on its source's
abbrev pub target_chosen : (target : Side) → (args : List ℤ) → List Chosen
target_chosen target args = chosen_by target.parts args

abbrev pub source_chosen : (target source : Side) → (args : List ℤ) → List Chosen
source_chosen target source args = chosen_by source.parts (drop (asked_of target) args)
