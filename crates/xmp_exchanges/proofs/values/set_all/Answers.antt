use Rattle.std.proofs.Common.{◌∙◌, sym, ap, drop}
use Rattle.xmp_meaning.specs.LoopEnds.{set_all}
use Rattle.xmp_exchanges.proofs.Settings.{none_left}
use Rattle.xmp_exchanges.proofs.values.set_all.Goals as goal

pub returns-in-None : goal.returns-in-None
returns-in-None c =
    let left = drop c.variables.name-index c.args.variables.now in
    sym c.variables.invariant ∙ ap (λ vs. set_all left vs c.variables.state) c.in-None.ensures ∙ none_left left c.variables.state
