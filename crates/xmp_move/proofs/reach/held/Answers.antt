use Rattle.std.proofs.Common.{arith, ap, sym, ◌∙◌}
use Rattle.xmp_dist.proofs.Owned.{chunked_unless}
use Rattle.xmp_move.proofs.ReachLaws.{held_rounds, held_span}
use Rattle.xmp_move.proofs.reach.held.Goals as goal

pub returns-in-Cyclic : goal.returns-in-Cyclic
returns-in-Cyclic c =
    rw c.nodes.ensures (held_rounds c.args.dim.now c.in-Cyclic.width c.args.node c.args.low c.args.high c.args.offset c.args.extent (sym c.dist.ensures ∙ c.in-Cyclic.is) c.requires.node c.requires.inside)

pub returns-in_default : goal.returns-in_default
returns-in_default c =
    let d = c.args.dim.now in
    let k = chunked_unless d.dist (λ w e. c.in_default.not-Cyclic w (c.dist.ensures ∙ e)) in
    held_span d c.args.node c.args.low c.args.high c.args.offset c.args.extent c.widened-from.result.0 c.widened-from.result.1
    c.interval-start.result.0 c.interval-start.result.1 k c.requires.node c.requires.inside c.requires.shadow
    c.interval-start.ensures.start c.interval-start.ensures.finish c.widened-from.ensures.full c.widened-from.ensures.empty
