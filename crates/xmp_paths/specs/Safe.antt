-- Plans whose reads on a node are of current copies, from copies of which some are out of date. Source: this project.
use Rattle.std.specs.Prelude.{ℕ, ◌≡◌, Bool, true, List, ◌∷◌, ◌++◌}
use Rattle.xmp_base.specs.declared.place.Place.{Place}
use Rattle.xmp_paths.specs.NodeSets.{has}
use Rattle.xmp_paths.specs.Plans.{Plan, Path, Stands}
use Rattle.xmp_paths.specs.Walk.{after_events}
use Rattle.xmp_paths.specs.declared.event.Event.{Event}
use Rattle.xmp_paths.specs.declared.event.Event.TheVariants.{Read, Wrong}

-- the objects whose copies on the node are out of date after the events, from those whose copies are before
abbrev pub left : (node : ℕ) → List Event → (ℕ → Bool) → ℕ → Bool
left node events stale object = after_events object node events (stale object)

-- on no path through the plan does the node read an object whose copy on it is out of date then
pub record Safe (node : ℕ) (plan : Plan Event) (stale : ℕ → Bool) : Type 0 where
  pub never : (before after : List Event) (object nodes rule : ℕ) (at : Place) →
      Path plan (before ++ Read object nodes rule at ∷ after) → has nodes node ≡ true →
      left node before stale object ≡ true → ⊥

-- no rule breaks in the plan where it stands
abbrev pub NothingWrong : Plan Event → Type 0
NothingWrong plan = (rule : ℕ) (at : Place) → Stands plan (Wrong rule at) → ⊥
