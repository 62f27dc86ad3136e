-- Whether a copy is out of date after some events, by a walk from the first event on.
use Rattle.std.specs.Prelude.{ℕ, ◌==◌, Bool, ◌&&◌, ◌||◌, not, List, [], ◌∷◌, if◌then◌else◌}
use Rattle.xmp_paths.specs.NodeSets.{has}
use Rattle.xmp_paths.specs.declared.event.Event.{Event}
use Rattle.xmp_paths.specs.declared.event.Event.TheVariants.{Read, Wrong, Mark}

-- whether it is after the event, from whether it was before
abbrev pub after_event : (object node : ℕ) → Event → Bool → Bool
after_event object node (Read target nodes rule at) was = was
after_event object node (Wrong rule at) was = was
after_event object node (Mark target current stale) was =
    if target == object then (has stale node || (not (has current node) && was)) else was

-- whether it is after the events
abbrev pub after_events : (object node : ℕ) → List Event → Bool → Bool
after_events object node [] was = was
after_events object node (e ∷ rest) was = after_events object node rest (after_event object node e was)
