use Rattle.std.proofs.Common.{◌≡◌, ◌++◌, map, drop}
use Rattle.xmp_paths.specs.Flows.{plan_of}
use Rattle.xmp_flow.specs.LoopEvents.{shadow_stale}
use Rattle.xmp_flow.specs.Views.{setting_of}
use Rattle.xmp_flow.proofs.directive.stale_shadows.Given as goal

abbrev pub invariant-items : goal.invariant-items
invariant-items l =
    map plan_of l.parts ++ map (shadow_stale (setting_of l.s)) (drop l.array-index l.arrays)
    ≡ map plan_of l.fn.parts ++ map (shadow_stale (setting_of l.s)) l.arrays
