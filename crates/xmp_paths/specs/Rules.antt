-- Where a rule breaks on the paths through a plan, from copies that are all current. Source: this project.
use Rattle.std.specs.Prelude.{ℕ, ◌≡◌, true, List, ◌∷◌, ◌++◌, ◌⊎◌}
use Rattle.xmp_base.specs.declared.place.Place.{Place}
use Rattle.xmp_base.specs.declared.refusal.Phase.{Phase}
use Rattle.xmp_base.specs.declared.refusal.Refusal.{Refusal}
use Rattle.xmp_paths.specs.NodeSets.{has}
use Rattle.xmp_paths.specs.Plans.{Plan, Path, Stands}
use Rattle.xmp_paths.specs.Stale.{IsLeftStale}
use Rattle.xmp_paths.specs.declared.event.Event.{Event}
use Rattle.xmp_paths.specs.declared.event.Event.TheVariants.{Read, Wrong}

-- a rule, by its number, at a place
pub record Broken : Type 0 where
  pub rule : ℕ
  pub at : Place

-- on some path through the plan a node reads an object whose copy on it is left out of date by the events before
pub record ReadsStale (plan : Plan Event) (b : Broken) : Type 0 where
  pub before : List Event
  pub after : List Event
  pub object : ℕ
  pub nodes : ℕ
  pub node : ℕ
  pub path : Path plan (before ++ Read object nodes b.rule b.at ∷ after)
  pub reads : has nodes node ≡ true
  pub stale : IsLeftStale object node before

-- the rule breaks in the plan: at such a read, or where it is wrong whatever came before
abbrev pub Breaks : Plan Event → Broken → Type 0
Breaks plan b = ReadsStale plan b ⊎ Stands plan (Wrong b.rule b.at)

-- the refusals of a phase that judges these broken rules
abbrev pub in_phase : Phase → (Broken → Type 0) → Refusal → Type 0
in_phase phase P r = (r.phase ≡ phase) × P (record { rule = r.rule; at = r.at })
