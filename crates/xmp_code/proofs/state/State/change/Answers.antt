use Rattle.std.proofs.Common.{◌<◌, ◌≤◌, ap, arith}
use Rattle.xmp_code.specs.States.{node_of}
use Rattle.xmp_code.specs.Actions.{acted}
use Rattle.xmp_code.proofs.state.State.change.Goals as goal

pub put-requires-clause-room : goal.put-requires-clause-room
put-requires-clause-room c =
    let h = c.requires.room.stack _ (ap (λ a. acted c.args.code.now c.args.input.now a (node_of c.args.self.now)) c.in-Value.is) in
    omega (arith, h)
