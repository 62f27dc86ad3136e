-- Where an access and one of some others are of one cell on behalf of two images.
use Rattle.std.specs.Prelude.{◌≡◌, Bool, true, ◌⊎◌, List, [], ◌∷◌}
use Rattle.xmp_base.specs.declared.refusal.Phase.TheVariants.{Coarray}
use Rattle.xmp_base.specs.declared.refusal.Refusal.{Refusal}
use Rattle.xmp_spots.specs.declared.touches.Touch.{Touch}
use Rattle.xmp_spots.specs.Clashes.{clash}

-- the refusal at an access: rule 2 of coarray programs
abbrev pub refused : Touch → Refusal
refused t = record { phase = Coarray; rule = 2; at = t.at }

-- the refusal is at one of these accesses that pass a test
abbrev pub IsAtOne : (Touch → Bool) → List Touch → Refusal → Type 0
IsAtOne test [] r = ⊥
IsAtOne test (t ∷ others) r = ((test t ≡ true) × (refused t ≡ r)) ⊎ IsAtOne test others r

-- the access and one of these clash, and the refusal is at one of both
abbrev pub ClashesWith : Touch → List Touch → Refusal → Type 0
ClashesWith t [] r = ⊥
ClashesWith t (other ∷ others) r =
    ((clash t other ≡ true) × ((refused t ≡ r) ⊎ (refused other ≡ r))) ⊎ ClashesWith t others r

-- the same for one of these and one of those
abbrev pub ClashBetween : (these those : List Touch) → Refusal → Type 0
ClashBetween [] those r = ⊥
ClashBetween (t ∷ these) those r = ClashesWith t those r ⊎ ClashBetween these those r
