use Rattle.std.proofs.Common.{arith}
use Rattle.xmp_dist.proofs.Cyclic.{cyclic_count}
use Rattle.xmp_dist.proofs.Owned.{owned_below-cyclic, owned_below-chunked, chunked_unless}
use Rattle.xmp_dist.proofs.dimension.Dim.owned_below.Goals as goal

pub returns-in-Cyclic : goal.returns-in-Cyclic
unfolding cyclic_count
returns-in-Cyclic c =
    let e = owned_below-cyclic c.args.self.now c.in-Cyclic.width c.args.c c.args.g c.in-Cyclic.is c.requires.node in
    omega arith

pub returns-in_default : goal.returns-in_default
returns-in_default c =
    let e = owned_below-chunked c.args.self.now c.args.c c.args.g (chunked_unless c.args.self.now.dist c.in_default.not-Cyclic) c.requires.node c.requires.inside in
    omega arith
