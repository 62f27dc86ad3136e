-- When a node's copy of an object is left out of date by some events. Source: this project.
use Rattle.std.specs.Prelude.{ℕ, ◌≡◌, true, false, List, ◌∷◌, ◌++◌, ◌⊎◌, ◌≢◌}
use Rattle.std.specs.List.{All}
use Rattle.xmp_paths.specs.NodeSets.{has}
use Rattle.xmp_paths.specs.declared.event.Event.{Event}
use Rattle.xmp_paths.specs.declared.event.Event.TheVariants.{Read, Wrong, Mark}

-- the event puts the node's copy of the object out of date
abbrev pub MakesStale : (object node : ℕ) → Event → Type 0
MakesStale object node (Read target nodes rule at) = ⊥
MakesStale object node (Wrong rule at) = ⊥
MakesStale object node (Mark target current stale) = (target ≡ object) × (has stale node ≡ true)

-- the event makes the node's copy of the object neither out of date nor current
abbrev pub LeavesAlone : (object node : ℕ) → Event → Type 0
LeavesAlone object node (Read target nodes rule at) = Unit {0}
LeavesAlone object node (Wrong rule at) = Unit {0}
LeavesAlone object node (Mark target current stale) =
    (target ≢ object) ⊎ ((has stale node ≡ false) × (has current node ≡ false))

-- the last of the events that makes the node's copy of the object out of date or current puts it out of date
pub record IsLeftStale (object node : ℕ) (events : List Event) : Type 0 where
  pub before : List Event
  pub last : Event
  pub after : List Event
  pub whole : events ≡ before ++ last ∷ after
  pub makes_stale : MakesStale object node last
  pub alone : All (LeavesAlone object node) after
