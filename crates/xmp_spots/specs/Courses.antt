-- The plan that a tree of events is.
use Rattle.std.specs.Prelude.{List, fold}
use Rattle.xmp_paths.specs.Plans.{Plan, skip, emit, sequence, branch, loop}
use Rattle.xmp_spots.specs.declared.events.Event.{Event}
use Rattle.xmp_spots.specs.declared.events.Course.{Course}
use Rattle.xmp_spots.specs.declared.events.Course.TheOpen.{Course-F}
use Rattle.xmp_spots.specs.declared.events.Course.TheFolds.{fold-Course}

-- the plans, one after another
abbrev pub in_sequence : List (Plan Event) → Plan Event
in_sequence parts = fold sequence skip parts

-- the plan of a tree whose parts are these plans
abbrev pub plan_step : Course-F (Plan Event) → Plan Event
plan_step (Course-F.Emit e) = emit e
plan_step (Course-F.Sequence parts) = in_sequence parts
plan_step (Course-F.Branch left right) = branch left right
plan_step (Course-F.Loop body) = loop body

-- the plan of a tree
abbrev pub plan_of : Course → Plan Event
plan_of = fold-Course (Plan Event) plan_step
