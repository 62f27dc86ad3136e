use Rattle.std.proofs.Common.{arith, ap, sym, ◌∙◌}
use Rattle.xmp_move.proofs.ReachLaws.{owned_rounds}
use Rattle.xmp_move.proofs.reach.owned.Goals as goal

pub returns-in-Cyclic : goal.returns-in-Cyclic
returns-in-Cyclic c =
    rw c.nodes.ensures (owned_rounds c.args.dim.now c.in-Cyclic.width c.args.node c.args.offset c.args.extent (sym c.dist.ensures ∙ c.in-Cyclic.is) c.requires.node c.requires.inside)
