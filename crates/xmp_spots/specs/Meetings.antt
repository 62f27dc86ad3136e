-- Which accesses may fall in one phase: those that can be reached, from the start of a plan or from one sync in it,
-- without passing a sync. Source: this project.
use Rattle.std.specs.Prelude.{ℕ, ◌≡◌, Bool, true, false, not, ◌&&◌, ◌⊎◌, List, [], ◌∷◌, ◌++◌}
use Rattle.xmp_paths.specs.Plans.{Plan, skip, emit, sequence, branch, loop, Path}
use Rattle.xmp_spots.specs.declared.touches.Touch.{Touch}
use Rattle.xmp_spots.specs.declared.events.Event.{Event}
use Rattle.xmp_spots.specs.declared.events.Event.TheVariants.{Touches, Sync, Wrong}

-- ---- events of a coarray program: an access, the end of a phase, or a rule that breaks at a place

abbrev pub is_sync : Event → Bool
is_sync (Touches t) = false
is_sync Sync = true
is_sync (Wrong rule at) = false

-- whether no phase ends in these
abbrev pub in_one_phase : List Event → Bool
in_one_phase [] = true
in_one_phase (e ∷ es) = not (is_sync e) && in_one_phase es

-- some path through the plan comes to the access before any sync
pub record Reached (plan : Plan Event) (t : Touch) : Type 0 where
  pub before : List Event
  pub after : List Event
  pub path : Path plan (before ++ Touches t ∷ after)
  pub clear : in_one_phase before ≡ true

-- what may follow a sync that stands in the plan, up to the plan's end; a sync is told by where it stands
abbrev pub After : Plan Event → Plan Event → Type 0
After skip rest = ⊥
After (emit e) rest = (e ≡ Sync) × (rest ≡ skip)
After (sequence p q) rest = ((r : Plan Event) × After p r × (rest ≡ sequence r q)) ⊎ After q rest
After (branch p q) rest = After p rest ⊎ After q rest
After (loop p) rest = (r : Plan Event) × After p r × (rest ≡ sequence r (loop p))

-- both accesses are reached from the start of the plan, or both from one sync in it
abbrev pub MayMeet : Plan Event → Touch → Touch → Type 0
MayMeet plan a b =
    (Reached plan a × Reached plan b)
    ⊎ ((rest : Plan Event) × After plan rest × Reached rest a × Reached rest b)
