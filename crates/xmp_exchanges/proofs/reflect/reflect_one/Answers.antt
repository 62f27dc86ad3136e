use Rattle.std.proofs.Common.{◌∙◌, [], ap, subst}
use Rattle.xmp_meaning.specs.Runs.{Does}
use Rattle.xmp_exchanges.specs.Transfers.{exchanged}
use Rattle.xmp_exchanges.proofs.SidesMade.{reflect_is}
use Rattle.xmp_exchanges.proofs.reflect.reflect_one.Goals as goal

pub returns-in-Ok : goal.returns-in-Ok
returns-in-Ok c =
    let p = c.args.together.now.program.now in
    subst (λ r. Does r c.exchange.result c.exchange.new.nodes)
    (ap (λ t. exchanged p t [] c.args.nodes.now) c.in-Ok.ensures ∙ ap (λ run. run c.args.nodes.now) (reflect_is p c.args.array))
    c.exchange.ensures
