use Rattle.xmp_steps.specs.Stops.{ends_of}
use Rattle.xmp_instr.specs.Effects.{next}
use Rattle.xmp_code.specs.States.{node_of}
use Rattle.xmp_code.proofs.running.run_going.Goals as goal

pub invariant_of-going-2 : goal.invariant_of-going-2
invariant_of-going-2 g c = record { ends = ends_of (next c.args.going.code.now c.args.going.input.now) (node_of c.run_within.new.self) g.steps c.run_within.ensures.again }
