use Rattle.std.proofs.Common.{arith}
use Rattle.xmp_own_parts.specs.Turns.{position_in_turn}
use Rattle.xmp_own_parts.proofs.Jumps.{owner_below}
use Rattle.xmp_own_parts.proofs.axis.Axis.next.Goals as goal

pub returns-then-self-nodes-clause-least : goal.returns-then-self-nodes-clause-least
returns-then-self-nodes-clause-least c k from to e =
    let b = owner_below c.args.self.now.dim.now (position_in_turn c.args.turns.now c.args.self.now.offset k) in omega arith
