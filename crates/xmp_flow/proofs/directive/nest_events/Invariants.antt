use Rattle.std.proofs.Common.{◌≡◌, ◌++◌, [], map, drop}
use Rattle.xmp_paths.specs.Flows.{plan_of}
use Rattle.xmp_flow.specs.LoopEvents.{nest_events}
use Rattle.xmp_flow.specs.Views.{setting_of}
use Rattle.xmp_flow.proofs.directive.nest_events.Given as goal

-- the heads so far, and those that are left, are all
abbrev pub invariant-items : goal.invariant-items
invariant-items l =
    map plan_of l.parts ++ nest_events (setting_of l.s) l.outer l.written (drop l.h-index l.nest)
    ≡ nest_events (setting_of l.s) [] l.written l.nest
