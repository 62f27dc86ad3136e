use Rattle.std.proofs.Common.{ap}
use Rattle.xmp_instr.specs.declared.stop.Stop.TheVariants as stop
use Rattle.xmp_instr.specs.Effects.{next, next_at}
use Rattle.xmp_code.specs.States.{node_of, stage_of}
use Rattle.xmp_machine.proofs.Runs.{found_by}
use Rattle.xmp_machine.proofs.running.run_on.Goals as goal

pub returns-in-Meets-clause-stop : goal.returns-in-Meets-clause-stop
returns-in-Meets-clause-stop c =
    let t = c.run.new.self in
    found_by (next c.args.code.now c.args.input.now) (node_of t) (stop.Exchange c.in-Meets.e)
    (ap (λ m. next_at c.args.code.now c.args.input.now (stage_of m t.talk t.data.out.items) (node_of t)) c.in-Meets.is) (node_of c.args.state.now) c.run.ensures.came
