use Rattle.std.proofs.Common.{◌-◌, arith}
use Rattle.xmp_code.proofs.Planned.{fills_count, peers_enough, sends_count}
use Rattle.xmp_move_tests.proofs.codes.plan_in.Goals as goal

pub returns-in-Ok-clause-sends : goal.returns-in-Ok-clause-sends
returns-in-Ok-clause-sends c =
    let has = rw c.parts.ensures.parts at c.parts.ensures.valid.nodes in
    let some = has.some in
    let last = peers_enough c.args.code.now c.in-Some.kind.now has c.in-Some.ensures (c.args.code.now.nodes - 1) (omega (arith, some)) in
    let count = sends_count c.in-Some.kind.now c.args.args.now _ c.in-Ok.plan c.in-Ok.ensures.plan in
    omega (arith, some, last, count)

pub returns-in-Ok-clause-fills : goal.returns-in-Ok-clause-fills
returns-in-Ok-clause-fills c =
    let has = rw c.parts.ensures.parts at c.parts.ensures.valid.nodes in
    let some = has.some in
    let last = peers_enough c.args.code.now c.in-Some.kind.now has c.in-Some.ensures (c.args.code.now.nodes - 1) (omega (arith, some)) in
    let count = fills_count c.in-Some.kind.now c.args.args.now _ c.in-Ok.plan c.in-Ok.ensures.plan in
    omega (arith, some, last, count)
