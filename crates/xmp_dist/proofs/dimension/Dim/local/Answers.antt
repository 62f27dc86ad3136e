use Rattle.std.proofs.Common.{ap, arith}
use Rattle.xmp_dist.specs.Owner.{owned_below}
use Rattle.xmp_dist.proofs.Owned.{local_lt}
use Rattle.xmp_dist.proofs.dimension.Dim.local.Goals as goal

pub returns-clause-below : goal.returns-clause-below
returns-clause-below c = let h = local_lt c.args.self.now c.args.g c.requires in let e = ap (λ k. owned_below c.args.self.now k c.args.g) c.owner_inside.ensures.owner in omega arith
