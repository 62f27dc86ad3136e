use Rattle.std.proofs.Common.{◌∙◌, ap, []}
use Rattle.xmp_paths.specs.Plans.{in_order}
use Rattle.xmp_flow.specs.LoopEvents.{nest_events}
use Rattle.xmp_flow.specs.Views.{setting_of}
use Rattle.xmp_flow.proofs.NestLaws.{nest_same}
use Rattle.xmp_flow.proofs.ready.heads.Goals as goal

pub returns : goal.returns
returns c =
    c.all.ensures ∙ ap in_order (c.in_ok-nest.ensures
    ∙ (ap (λ l. nest_events (setting_of c.args.bounds.now) [] c.in_ok-written.written l) c.as_slice.ensures
    ∙ nest_same (setting_of c.args.bounds.now) _ _ c.in_ok-written.ensures [] c.args.d.now.nest))
