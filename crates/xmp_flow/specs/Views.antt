-- The setting that the code holds.
use Rattle.std.specs.Prelude.{ℕ, ◌≡◌, Option, Some, None, if◌then◌else◌}
use Rattle.std.specs.Option.{option_copied}
use Rattle.xmp_base.specs.declared.place.Place.{Place}
use Rattle.xmp_paths.specs.Plans.{Plan, skip, emit}
use Rattle.xmp_paths.specs.declared.event.Event.{Event}
use Rattle.xmp_paths.specs.declared.event.Event.TheVariants.{Read, Wrong}
use Rattle.xmp_prog.specs.Numbers.{is_in}
use Rattle.xmp_loops.specs.Objects.{all_nodes, array_object}
use Rattle.xmp_loops.specs.Tables.{flag_at, role_at}
use Rattle.xmp_flow.specs.Setting.{Setting}
use Rattle.xmp_flow.specs.declared.setting.Around.{Around}
use Rattle.xmp_loops.specs.declared.offsets.Reach.{Reach}

-- what the code holds, as a setting
abbrev pub setting_of : Around → Setting
setting_of s = record {
  program = s.program.now;
  nodes = s.nodes;
  inside = s.inside;
  over = option_copied s.over;
  roles = role_at s.roles.now;
  written = is_in s.written.now;
  loops = flag_at s.loops.now;
  moving = s.moving;
}

-- the code holds all nodes beside it
abbrev pub KnowsAll : Around → Type 0
KnowsAll s = s.all ≡ all_nodes s.program.now

-- what happens at an element of which the offsets reach so far
abbrev pub events_at : Setting → ℕ → Place → Reach → Plan Event
events_at s array at r =
    if r.own
    then skip
    else (if s.written array
    then emit (Wrong 4 at)
    else (if r.within then emit (Read (array_object array) (all_nodes s.program) 3 at) else emit (Wrong 3 at)))

abbrev pub events_of_reach : Setting → ℕ → Place → Option Reach → Plan Event
events_of_reach s array at None = emit (Wrong 2 at)
events_of_reach s array at (Some r) = events_at s array at r
