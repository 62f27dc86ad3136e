use Rattle.std.proofs.Common.{◌<◌, subst, length, refl, rules}
use Rattle.xmp_meaning.specs.Runs.{Does}
use Rattle.xmp_exchanges.proofs.GmoveEnds.{gmove_done, gmove_halted}
use Rattle.xmp_exchanges.proofs.gmove.gmove_by.Goals as goal

pub returns-else-not-is_good : goal.returns-else-not-is_good
returns-else-not-is_good c =
    let some : 0 < length c.args.nodes.now.stores = search rules in
    subst (λ r. Does r c.exchange.result c.exchange.new.nodes)
    (gmove_done c.args.together.now.program.now c.args.together.now.input.now c.args.target.now c.args.source.now c.args.transfer.now c.requires (c.if-not-is_laid.ensures refl) c.new.result
    c.args.nodes.now c.all_do.new.nodes c.in-Ok.numbers c.as_slice-args.result.now some c.as_slice-args.ensures c.in-Ok.ensures (c.if-not-is_good.ensures refl))
    c.exchange.ensures

pub returns-in-Err : goal.returns-in-Err
returns-in-Err c =
    let some : 0 < length c.args.nodes.now.stores = search rules in
    gmove_halted c.args.together.now.program.now c.args.together.now.input.now c.args.target.now c.args.source.now c.args.transfer.now c.requires (c.if-not-is_laid.ensures refl) c.new.result
    c.args.nodes.now c.all_do.new.nodes c.in-Err.halt some c.in-Err.ensures
