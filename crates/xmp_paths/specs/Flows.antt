-- The plan that a tree of events is.
use Rattle.xmp_paths.specs.Plans.{Plan, emit, branch, loop, in_order}
use Rattle.xmp_paths.specs.declared.event.Event.{Event}
use Rattle.xmp_paths.specs.declared.event.Flow.{Flow}
use Rattle.xmp_paths.specs.declared.event.Flow.TheOpen.{Flow-F}
use Rattle.xmp_paths.specs.declared.event.Flow.TheFolds.{fold-Flow}

-- the plan of a tree whose parts are these plans
abbrev pub plan_step : Flow-F (Plan Event) → Plan Event
plan_step (Flow-F.Emit e) = emit e
plan_step (Flow-F.Sequence parts) = in_order parts
plan_step (Flow-F.Branch left right) = branch left right
plan_step (Flow-F.Loop body) = loop body

-- the plan of a tree
abbrev pub plan_of : Flow → Plan Event
plan_of = fold-Flow (Plan Event) plan_step
