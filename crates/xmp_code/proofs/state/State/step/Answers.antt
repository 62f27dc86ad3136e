use Rattle.std.proofs.Common.{◌≡◌, ◌<◌, ◌^◌, length, subst, sym, ap, arith, Some, slice_get}
use Rattle.xmp_instr.specs.declared.parts.CodeParts.{CodeParts}
use Rattle.xmp_instr.specs.Effects.{next}
use Rattle.xmp_code.specs.declared.state.State.{State}
use Rattle.xmp_code.specs.States.{node_of}
use Rattle.xmp_code.specs.Actions.{MayLackAt, acted}
use Rattle.xmp_code.proofs.Rooms.{acted_next, room_of}
use Rattle.xmp_code.proofs.Advanced.{advances, fits_on, lacks_at, on_err}
use Rattle.xmp_code.proofs.state.State.step.Goals as goal

pub act-requires-clause-room : goal.act-requires-clause-room
act-requires-clause-room c =
    let code : CodeParts = c.args.code.now in
    let s : State = c.args.self.now in
    let small : length code.instrs < 2 ^ 64 = (let e = c.len-count.ensures in let l = c.len-count.type_inv in omega (arith, e, l)) in
    room_of code c.args.input.now s (acted code c.args.input.now c.action_of-action.result (node_of s)) c.requires.valid c.requires.state c.requires.going small
    (acted_next code c.args.input.now s c.in-Some.instr.now c.action_of-action.result c.requires.going (sym c.in-Some.ensures.value) c.action_of-action.ensures)
    c.requires.unstuck

pub returns-clause-ok : goal.returns-clause-ok
returns-clause-ok c =
    let code : CodeParts = c.args.code.now in
    let s : State = c.args.self.now in
    advances code c.args.input.now s c.act.new.self (acted code c.args.input.now c.action_of-action.result (node_of s))
    (acted_next code c.args.input.now s c.in-Some.instr.now c.action_of-action.result c.requires.going (sym c.in-Some.ensures.value) c.action_of-action.ensures)
    c.act.result c.act.ensures.ok

pub returns-clause-fits : goal.returns-clause-fits
returns-clause-fits c =
    let code : CodeParts = c.args.code.now in
    let s : State = c.args.self.now in
    fits_on code c.args.input.now s c.act.new.self (acted code c.args.input.now c.action_of-action.result (node_of s)) c.requires.valid c.requires.state
    (acted_next code c.args.input.now s c.in-Some.instr.now c.action_of-action.result c.requires.going (sym c.in-Some.ensures.value) c.action_of-action.ensures)
    c.act.result c.act.ensures.ok c.act.ensures.err c.act.ensures.moving

pub returns-clause-lacks : goal.returns-clause-lacks
returns-clause-lacks c =
    let s : State = c.args.self.now in
    lacks_at c.args.code.now s c.requires.going c.act.result
    (on_err c.act.result (λ w. subst (λ o. MayLackAt c.args.code.now o (node_of s)) c.in-Some.ensures.value (c.action_of-action.ensures.lacks w)) c.act.ensures.lacks)
