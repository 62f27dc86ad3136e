use Rattle.xmp_serial.proofs.Ended.{is_serial}
use Rattle.xmp_serial.proofs.program.serial_of_parts.Goals as goal

pub returns : goal.returns
returns c =
    is_serial c.args.program.now c.in_ok-layout.layout.program.now c.in_ok-layout.layout.packed c.args.input.now c.args.steps c.in_ok-state.state c.run-ended.new.state c.run-ended.result
    c.outcome_of.result c.in_ok-layout.ensures.program c.in_ok-layout.ensures.whole (c.in_ok-state.ensures {u = tt}) c.run-ended.ensures c.outcome_of.ensures
