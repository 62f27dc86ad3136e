-- Which rules of coarray programs break in a plan: rule 2, where two accesses that may fall in one phase clash, and what
-- is wrong whatever came before. Source: this project, after XcalableMP 1.4, coarrays.
use Rattle.std.specs.Prelude.{◌≡◌, true, ◌⊎◌}
use Rattle.xmp_base.specs.declared.refusal.Phase.TheVariants.{Coarray}
use Rattle.xmp_base.specs.declared.refusal.Refusal.{Refusal}
use Rattle.xmp_paths.specs.Plans.{Plan, skip, emit, sequence, branch, loop, Stands}
use Rattle.xmp_spots.specs.declared.touches.Touch.{Touch}
use Rattle.xmp_spots.specs.Clashes.{clash}
use Rattle.xmp_spots.specs.declared.events.Event.{Event}
use Rattle.xmp_spots.specs.declared.events.Event.TheVariants.{Touches, Wrong}
use Rattle.xmp_spots.specs.Meetings.{MayMeet}
use Rattle.xmp_spots.specs.Joins.{IsEarly, IsLate}
use Rattle.xmp_spots.specs.Races.{refused}

-- two accesses that may meet clash, and the refusal is at the first; either of two may be the first
pub record Races (plan : Plan Event) (r : Refusal) : Type 0 where
  pub one : Touch
  pub other : Touch
  pub meet : MayMeet plan one other
  pub clashes : clash one other ≡ true
  pub at : refused one ≡ r

-- a rule is wrong in the plan, where it stands
abbrev pub IsWrong : Plan Event → Refusal → Type 0
IsWrong plan r = (r.phase ≡ Coarray) × Stands plan (Wrong r.rule r.at)

-- what breaks in the plan
abbrev pub BreaksIn : Plan Event → Refusal → Type 0
BreaksIn plan r = Races plan r ⊎ IsWrong plan r

-- ---- the same by recursion, which code follows

-- an access of these clashes with one of those, and the refusal is at one of both
pub record RacesAcross (P Q : Touch → Type 0) (r : Refusal) : Type 0 where
  pub one : Touch
  pub other : Touch
  pub first : P one
  pub second : Q other
  pub clashes : clash one other ≡ true
  pub at : (refused one ≡ r) ⊎ (refused other ≡ r)

abbrev pub RacesIn : Plan Event → Refusal → Type 0
RacesIn skip r = ⊥
RacesIn (emit e) r = (t : Touch) × (e ≡ Touches t) × (clash t t ≡ true) × (refused t ≡ r)
RacesIn (sequence p q) r = (RacesIn p r ⊎ RacesIn q r) ⊎ RacesAcross (IsLate p) (IsEarly q) r
RacesIn (branch p q) r = (RacesIn p r ⊎ RacesIn q r) ⊎ RacesAcross (IsEarly p) (IsEarly q) r
RacesIn (loop p) r = RacesIn p r ⊎ RacesAcross (IsLate p) (IsEarly p) r

abbrev pub BreaksWithin : Plan Event → Refusal → Type 0
BreaksWithin plan r = RacesIn plan r ⊎ IsWrong plan r
