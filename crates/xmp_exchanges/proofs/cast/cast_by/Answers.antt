use Rattle.std.proofs.Common.{◌∙◌, ap, subst}
use Rattle.xmp_meaning.specs.declared.ends.Flow.TheVariants.{Next}
use Rattle.xmp_meaning.specs.LoopEnds.{set_all}
use Rattle.xmp_meaning.specs.Runs.{Does}
use Rattle.xmp_nodes.specs.Nodes.{all_do}
use Rattle.xmp_exchanges.proofs.CastValues.{cast_is}
use Rattle.xmp_exchanges.proofs.cast.cast_by.Goals as goal

pub returns : goal.returns
returns c =
    subst (λ r. Does r c.all_do.result c.all_do.new.nodes)
    (ap (all_do Next (λ node. set_all c.args.variables.now c.args.values.now)) c.say.ensures
    ∙ cast_is c.args.together.now.program.now c.args.variables.now c.args.from.now c.args.nodes.now c.args.members.now c.args.values.now c.requires.many c.requires.members c.requires.values)
    c.all_do.ensures
