use Rattle.std.proofs.Common.{◌≡◌, ◌++◌, map, drop}
use Rattle.xmp_paths.specs.Flows.{plan_of}
use Rattle.xmp_loops.specs.Objects.{scalar_object}
use Rattle.xmp_flow.specs.Setting.{current_on_all}
use Rattle.xmp_flow.specs.Views.{setting_of}
use Rattle.xmp_flow.proofs.directive.current_reductions.Given as goal

abbrev pub invariant-items : goal.invariant-items
invariant-items l =
    map plan_of l.parts ++ map (λ r. current_on_all (setting_of l.s) (scalar_object r.variable.number)) (drop l.r-index l.reductions)
    ≡ map plan_of l.fn.parts ++ map (λ r. current_on_all (setting_of l.s) (scalar_object r.variable.number)) l.reductions
