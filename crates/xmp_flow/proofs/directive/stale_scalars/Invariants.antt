use Rattle.std.proofs.Common.{◌≡◌, ◌++◌, map, drop}
use Rattle.xmp_paths.specs.Flows.{plan_of}
use Rattle.xmp_loops.specs.Objects.{scalar_object}
use Rattle.xmp_flow.specs.Setting.{stale_on_all}
use Rattle.xmp_flow.specs.Views.{setting_of}
use Rattle.xmp_flow.proofs.directive.stale_scalars.Given as goal

abbrev pub invariant-items : goal.invariant-items
invariant-items l =
    map plan_of l.parts ++ map (λ slot. stale_on_all (setting_of l.s) (scalar_object slot)) (drop l.slot-index l.slots)
    ≡ map plan_of l.fn.parts ++ map (λ slot. stale_on_all (setting_of l.s) (scalar_object slot)) l.slots
