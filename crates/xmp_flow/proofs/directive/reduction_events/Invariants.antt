use Rattle.std.proofs.Common.{◌≡◌, ◌++◌, [], map, drop}
use Rattle.xmp_paths.specs.Flows.{plan_of}
use Rattle.xmp_flow.specs.LoopEvents.{reduction_events}
use Rattle.xmp_flow.specs.Views.{setting_of}
use Rattle.xmp_flow.proofs.directive.reduction_events.Given as goal

-- the reductions so far, and those that are left, are all
abbrev pub invariant-items : goal.invariant-items
invariant-items l =
    map plan_of l.parts ++ reduction_events (setting_of l.s) l.before (drop l.r-index l.reductions)
    ≡ reduction_events (setting_of l.s) [] l.reductions
