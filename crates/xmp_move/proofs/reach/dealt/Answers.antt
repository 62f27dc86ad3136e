use Rattle.std.proofs.Common.{arith}
use Rattle.xmp_move.proofs.ReachLaws.{dealt_is}
use Rattle.xmp_move.proofs.reach.dealt.Goals as goal

pub returns : goal.returns
returns c =
    let e = dealt_is c.args.width c.args.nodes c.args.node c.args.g c.requires.some c.requires.node in
    omega arith
