use Rattle.std.proofs.Common.{map}
use Rattle.xmp_paths.specs.Flows.{plan_of}
use Rattle.xmp_flow.specs.Views.{setting_of}
use Rattle.xmp_flow.proofs.NestLaws.{reduction_more}
use Rattle.xmp_flow.proofs.directive.reduction_events.Goals as goal

pub items-preserved : goal.items-preserved
items-preserved c =
    reduction_more (setting_of c.args.s.now) c.items.before c.push_reduction.new.before (map plan_of c.items.parts) (map plan_of c.push_reduction.new.parts)
    c.args.reductions.now c.items.r-index _ _ c.items-test.true
    c.in_ok-push_reduction.ensures.before c.in_ok-push_reduction.ensures.parts c.items.invariant
