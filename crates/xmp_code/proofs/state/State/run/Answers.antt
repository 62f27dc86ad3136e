use Rattle.xmp_steps.specs.Stops.{ends_of}
use Rattle.xmp_instr.specs.Effects.{next}
use Rattle.xmp_code.specs.States.{node_of}
use Rattle.xmp_code.proofs.state.State.run.Goals as goal

pub invariant_of-going : goal.invariant_of-going
invariant_of-going c = record { ends = ends_of (next c.args.code.now c.args.input.now) (node_of c.args.self.now) c.requires.comes.0 c.requires.comes.1 }
