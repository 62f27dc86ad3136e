use Rattle.std.proofs.Common.{◌<◌, ◌≤◌, arith}
use Rattle.xmp_serial.proofs.Knots.{tells_at, tells_none, tells_over}
use Rattle.xmp_serial.proofs.calls.+call_to.Goals as goal

pub returns-then-number-depth : goal.returns-then-number-depth
returns-then-number-depth t c = tells_over c.args.layout.now.program.now c.args.node c.args.function c.args.arguments.now c.args.steps.now c.args.depth c.if-number-depth.true

pub returns-in-None : goal.returns-in-None
returns-in-None t c =
    let below : c.args.function < c.args.depth = omega arith in
    tells_none c.args.layout.now.program.now c.args.node c.args.function c.args.arguments.now c.args.steps.now c.args.depth below c.in-None.ensures.value

pub returns : goal.returns
returns t c =
    let below : c.args.function < c.args.depth = omega arith in
    tells_at c.args.layout.now.program.now c.args.node c.args.function c.args.arguments.now c.args.steps.now c.args.depth c.in-Some.f.now c.invoke_anew.result c.invoke_anew.new.steps
    below c.in-Some.ensures.value c.invoke_anew.ensures
