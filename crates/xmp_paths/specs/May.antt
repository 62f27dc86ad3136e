-- The rules that break in a plan, by recursion on it: the private contracts of the code cite it.
use Rattle.std.specs.Prelude.{ℕ, ◌≡◌, Bool, true, ◌||◌, ◌⊎◌}
use Rattle.xmp_paths.specs.NodeSets.{has}
use Rattle.xmp_paths.specs.Plans.{Plan, skip, emit, sequence, branch, loop}
use Rattle.xmp_paths.specs.Rules.{Broken}
use Rattle.xmp_paths.specs.Walk.{after_event}
use Rattle.xmp_paths.specs.declared.event.Event.{Event}
use Rattle.xmp_paths.specs.declared.event.Event.TheVariants.{Read, Wrong, Mark}

-- whether some path through the plan may leave the copy out of date, from whether it may be so before
abbrev pub may_leave : (object node : ℕ) → Plan Event → Bool → Bool
may_leave object node skip was = was
may_leave object node (emit e) was = after_event object node e was
may_leave object node (sequence p q) was = may_leave object node q (may_leave object node p was)
may_leave object node (branch p q) was = may_leave object node p was || may_leave object node q was
may_leave object node (loop p) was = was || may_leave object node p was

-- the copies that may be out of date after the plan, from those that may be before
abbrev pub after_plan : Plan Event → (ℕ → ℕ → Bool) → ℕ → ℕ → Bool
after_plan plan entry object node = may_leave object node plan (entry object node)

-- the rule breaks at this event
abbrev pub BreaksAt : Event → (ℕ → ℕ → Bool) → Broken → Type 0
BreaksAt (Read object nodes rule at) entry b =
    (record { rule = rule; at = at } ≡ b) × ((node : ℕ) × (has nodes node ≡ true) × (entry object node ≡ true))
BreaksAt (Wrong rule at) entry b = record { rule = rule; at = at } ≡ b
BreaksAt (Mark object current stale) entry b = ⊥

-- the rule breaks in the plan, from copies that may be out of date as `entry` says
abbrev pub BreaksFrom : Plan Event → (ℕ → ℕ → Bool) → Broken → Type 0
BreaksFrom skip entry b = ⊥
BreaksFrom (emit e) entry b = BreaksAt e entry b
BreaksFrom (sequence p q) entry b = BreaksFrom p entry b ⊎ BreaksFrom q (after_plan p entry) b
BreaksFrom (branch p q) entry b = BreaksFrom p entry b ⊎ BreaksFrom q entry b
BreaksFrom (loop p) entry b = BreaksFrom p (after_plan (loop p) entry) b
