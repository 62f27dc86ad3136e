use Rattle.std.proofs.Common.{sym, ap, ◌∙◌, arith}
use Rattle.xmp_dist.proofs.Owned.{chunked_unless}
use Rattle.xmp_map.specs.Shadow.{has_shadow}
use Rattle.xmp_map.proofs.LineLaws.{held_cyclic, held_chunked}
use Rattle.xmp_map.proofs.reach.held_below.Goals as goal

pub overflow_sub-result : goal.overflow_sub-result
overflow_sub-result c =
    let d = c.args.dim.now in
    let h = held_cyclic d c.args.c c.args.low c.args.high c.args.offset c.args.n (ap (λ t. has_shadow t) (sym c.in-Cyclic.ensures)) in
    omega arith

pub returns-in-Cyclic : goal.returns-in-Cyclic
returns-in-Cyclic c =
    let d = c.args.dim.now in
    let h = held_cyclic d c.args.c c.args.low c.args.high c.args.offset c.args.n (ap (λ t. has_shadow t) (sym c.in-Cyclic.ensures)) in
    omega arith

pub returns-then-start-end : goal.returns-then-start-end
returns-then-start-end c =
    let d = c.args.dim.now in
    let k = chunked_unless d.dist (λ w e. c.in_default.not-Cyclic w (c.dist.ensures ∙ e)) in
    let cut = held_chunked d c.args.c c.args.low c.args.high c.args.offset c.args.n k c.requires.node c.requires.inside c.requires.shadow in
    let f = cut.full (omega arith) in
    omega arith

pub returns-else-start-end : goal.returns-else-start-end
returns-else-start-end c =
    let d = c.args.dim.now in
    let k = chunked_unless d.dist (λ w e. c.in_default.not-Cyclic w (c.dist.ensures ∙ e)) in
    let cut = held_chunked d c.args.c c.args.low c.args.high c.args.offset c.args.n k c.requires.node c.requires.inside c.requires.shadow in
    let f = cut.empty (omega arith) in
    omega arith
