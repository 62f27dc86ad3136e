use Rattle.std.proofs.Common.{◌∙◌}
use Rattle.xmp_directives.proofs.Reductions.{reductions_step}
use Rattle.xmp_directives.proofs.loop_lines.reductions_of.Goals as goal

pub list-preserved : goal.list-preserved
list-preserved c =
    c.list.invariant
    ∙ reductions_step c.list.done c.append.new.self c.args.list.now c.list.reduction-index c.reduction-item.result c.operation_of.result c.in_ok-more.more c.list.world c.reduction_names.new.world
    c.list-test.true c.reduction-item.is c.operation_of.ensures c.in_ok-more.ensures c.in_ok-append.ensures
