use Rattle.std.proofs.Common.{arith}
use Rattle.xmp_dist.proofs.Cyclic.{cyclic_global}
use Rattle.xmp_dist.proofs.Owned.{global_cyclic, global_chunked, chunked_unless, dim_fits}
use Rattle.xmp_dist.proofs.dimension.Dim.global.Goals as goal

pub overflow_mul-result-in-Cyclic : goal.overflow_mul-result-in-Cyclic
unfolding cyclic_global
overflow_mul-result-in-Cyclic c =
    let d = c.args.self.now in
    let g = global_cyclic d c.in-Cyclic.width c.args.c c.args.l c.in-Cyclic.is c.requires.node c.requires.within in
    let f = dim_fits d.size d.nodes d.dist d.valid in
    let i = g.inside in
    omega arith

pub overflow_add-result-in-Cyclic : goal.overflow_add-result-in-Cyclic
unfolding cyclic_global
overflow_add-result-in-Cyclic c =
    let d = c.args.self.now in
    let g = global_cyclic d c.in-Cyclic.width c.args.c c.args.l c.in-Cyclic.is c.requires.node c.requires.within in
    let f = dim_fits d.size d.nodes d.dist d.valid in
    let i = g.inside in
    omega arith

pub returns-in-Cyclic : goal.returns-in-Cyclic
unfolding cyclic_global
returns-in-Cyclic c =
    let d = c.args.self.now in
    let g = global_cyclic d c.in-Cyclic.width c.args.c c.args.l c.in-Cyclic.is c.requires.node c.requires.within in
    record { inside = g.inside; owner = g.owner; local = g.local; inverse = g.inverse }

pub overflow_add-result-in_default : goal.overflow_add-result-in_default
overflow_add-result-in_default c =
    let d = c.args.self.now in
    let g = global_chunked d c.args.c c.args.l (chunked_unless d.dist c.in_default.not-Cyclic) c.requires.node c.requires.within in
    let f = dim_fits d.size d.nodes d.dist d.valid in
    let i = g.inside in
    omega arith

pub returns-in_default : goal.returns-in_default
returns-in_default c =
    let d = c.args.self.now in
    let g = global_chunked d c.args.c c.args.l (chunked_unless d.dist c.in_default.not-Cyclic) c.requires.node c.requires.within in
    rw c.interval.ensures.start (record { inside = g.inside; owner = g.owner; local = g.local; inverse = g.inverse })
