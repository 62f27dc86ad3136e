-- What the code keeps of a part of a course.
use Rattle.std.specs.Prelude.{◌≡◌, Bool, true, false, not, ◌&&◌, ◌↔◌, List, Contains, if◌then◌else◌}
use Rattle.xmp_base.specs.declared.refusal.Refusal.{Refusal}
use Rattle.xmp_base.specs.First.{IsFirst}
use Rattle.xmp_paths.specs.Plans.{Plan, skip, emit, sequence, branch, loop}
use Rattle.xmp_spots.specs.declared.touches.Touch.{Touch}
use Rattle.xmp_spots.specs.declared.events.Event.{Event}
use Rattle.xmp_spots.specs.declared.summary.Summary.{Summary}
use Rattle.xmp_spots.specs.Meetings.{is_sync}
use Rattle.xmp_spots.specs.Joins.{passes, IsEarly, IsLate}
use Rattle.xmp_spots.specs.PlanRaces.{RacesAcross, RacesIn, BreaksWithin}

-- no phase ends in the plan
abbrev pub is_quiet : Plan Event → Bool
is_quiet skip = true
is_quiet (emit e) = not (is_sync e)
is_quiet (sequence p q) = is_quiet p && is_quiet q
is_quiet (branch p q) = is_quiet p && is_quiet q
is_quiet (loop p) = is_quiet p

-- the plan any number of times breaks no rule that it doesn't break once, and has no other late accesses
pub record IsTurned (plan : Plan Event) : Type 0 where
  pub late : (t : Touch) → IsEarly plan t → IsLate plan t
  pub judged : (r : Refusal) → RacesAcross (IsLate plan) (IsEarly plan) r → RacesIn plan r

-- the late accesses: where no phase ends, these are the early ones
abbrev pub late_of : Summary → List Touch
late_of s = if s.quiet then s.early else s.late

-- the summary is of the plan
pub record Sums (plan : Plan Event) (s : Summary) : Type 0 where
  pub quiet : s.quiet ≡ true → is_quiet plan ≡ true
  pub passes : s.passes ≡ passes plan
  pub turned : s.turned ≡ true → IsTurned plan
  pub early : (t : Touch) → Contains s.early t ↔ IsEarly plan t
  pub late : (t : Touch) → Contains (late_of s) t ↔ IsLate plan t
  pub found : IsFirst (BreaksWithin plan) s.found
