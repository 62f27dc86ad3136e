use Rattle.std.proofs.Common.{◌∙◌}
use Rattle.xmp_exchanges.proofs.OneExchange.{plans_send}
use Rattle.xmp_exchanges.proofs.exchange.exchange.Goals as goal

pub tables_of-requires : goal.tables_of-requires
tables_of-requires c =
    plans_send c.args.transfer.now.kind c.args.args.now c.count-count.result c.as_slice-plans.result.now (c.as_slice-plans.ensures.value ∙ c.in-Ok.ensures.plans) c.in-Ok.ensures.peers
