-- Which accesses may meet, by recursion on the plan: the code follows it.
use Rattle.std.specs.Prelude.{◌≡◌, Bool, true, not, ◌&&◌, ◌||◌, ◌⊎◌}
use Rattle.xmp_paths.specs.Plans.{Plan, skip, emit, sequence, branch, loop}
use Rattle.xmp_spots.specs.declared.touches.Touch.{Touch}
use Rattle.xmp_spots.specs.declared.events.Event.{Event}
use Rattle.xmp_spots.specs.declared.events.Event.TheVariants.{Touches}
use Rattle.xmp_spots.specs.Meetings.{is_sync}

-- whether some path through the plan has no sync
abbrev pub passes : Plan Event → Bool
passes skip = true
passes (emit e) = not (is_sync e)
passes (sequence p q) = passes p && passes q
passes (branch p q) = passes p || passes q
passes (loop p) = true

-- an access that some path comes to before any sync
abbrev pub IsEarly : Plan Event → Touch → Type 0
IsEarly skip t = ⊥
IsEarly (emit e) t = e ≡ Touches t
IsEarly (sequence p q) t = IsEarly p t ⊎ ((passes p ≡ true) × IsEarly q t)
IsEarly (branch p q) t = IsEarly p t ⊎ IsEarly q t
IsEarly (loop p) t = IsEarly p t

-- an access that falls in one phase with what follows the plan: it is reached from the start or from a sync, from where
-- some path comes to the end without a sync
abbrev pub IsLate : Plan Event → Touch → Type 0
IsLate skip t = ⊥
IsLate (emit e) t = e ≡ Touches t
IsLate (sequence p q) t = IsLate q t ⊎ ((passes q ≡ true) × IsLate p t)
IsLate (branch p q) t = (IsLate p t ⊎ IsLate q t) ⊎ (((passes p || passes q) ≡ true) × (IsEarly p t ⊎ IsEarly q t))
IsLate (loop p) t = IsLate p t ⊎ IsEarly p t

-- one of them is of these, and the other of those
abbrev pub Across : (P Q : Touch → Type 0) → Touch → Touch → Type 0
Across P Q a b = (P a × Q b) ⊎ (P b × Q a)

-- the accesses that meet, in a part or across two
abbrev pub Meet : Plan Event → Touch → Touch → Type 0
Meet skip a b = ⊥
Meet (emit e) a b = (e ≡ Touches a) × (e ≡ Touches b)
Meet (sequence p q) a b = (Meet p a b ⊎ Meet q a b) ⊎ Across (IsLate p) (IsEarly q) a b
Meet (branch p q) a b = (Meet p a b ⊎ Meet q a b) ⊎ Across (IsEarly p) (IsEarly q) a b
Meet (loop p) a b = Meet p a b ⊎ Across (IsLate p) (IsEarly p) a b
