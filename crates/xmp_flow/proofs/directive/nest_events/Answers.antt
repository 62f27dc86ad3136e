use Rattle.std.proofs.Common.{map}
use Rattle.xmp_paths.specs.Flows.{plan_of}
use Rattle.xmp_flow.specs.Views.{setting_of}
use Rattle.xmp_flow.proofs.NestLaws.{nest_more}
use Rattle.xmp_flow.proofs.directive.nest_events.Goals as goal

pub items-preserved : goal.items-preserved
items-preserved c =
    nest_more (setting_of c.args.s.now) c.args.written.now c.items.outer c.push_head.new.outer (map plan_of c.items.parts) (map plan_of c.push_head.new.parts)
    c.args.nest.now c.items.h-index c.h-item.result _ c.items-test.true c.h-item.is
    c.in_ok-push_head.ensures.outer c.in_ok-push_head.ensures.parts c.items.invariant
