use Rattle.std.proofs.Common.{◌∙◌, ap}
use Rattle.xmp_meaning.specs.declared.ends.Flow.TheVariants.{Next}
use Rattle.xmp_meaning.specs.LoopEnds.{ending}
use Rattle.xmp_meaning.specs.Runs.{pure}
use Rattle.xmp_nodes.specs.Nodes.{Nodes}
use Rattle.xmp_tasks.proofs.Whole.{found}
use Rattle.xmp_tasks.proofs.tasks.run_tasks.Goals as goal

pub returns-in-None : goal.returns-in-None
returns-in-None c =
    found c.args.together.now.program.now c.args.together.now.input.now c.args.tasks.now c.args.nodes.now c.each_does.new.nodes c.print.new.nodes c.say.new.nodes c.as_slice.result.now c.in-Ok.owns.items c.first.result
    c.as_slice.ensures.value c.in-Ok.ensures.gives c.in-Ok.ensures.leaves c.in-Ok-print.ensures c.say.ensures c.first.ensures
    ∙ ap (λ e. ending e (pure {S = Nodes} Next) c.say.new.nodes) c.in-None.is

pub returns : goal.returns
returns c =
    found c.args.together.now.program.now c.args.together.now.input.now c.args.tasks.now c.args.nodes.now c.each_does.new.nodes c.print.new.nodes c.say.new.nodes c.as_slice.result.now c.in-Ok.owns.items c.first.result
    c.as_slice.ensures.value c.in-Ok.ensures.gives c.in-Ok.ensures.leaves c.in-Ok-print.ensures c.say.ensures c.first.ensures
    ∙ ap (λ e. ending e (pure {S = Nodes} Next) c.say.new.nodes) c.in-Some.is
