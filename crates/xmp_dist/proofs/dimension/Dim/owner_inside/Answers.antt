use Rattle.std.proofs.Common.{◌≡◌, sym, ap, ◌∙◌, arith}
use Rattle.xmp_dist.specs.Owner.{owner_inside}
use Rattle.xmp_dist.specs.Table.{owner_by}
use Rattle.xmp_dist.proofs.Owned.{owner_by_lt}
use Rattle.xmp_dist.proofs.dimension.Dim.owner_inside.Goals as goal

pub returns-in-Whole-clause-owner : goal.returns-in-Whole-clause-owner
unfolding owner_inside
returns-in-Whole-clause-owner c = ap (λ t. owner_by t c.args.self.now.size c.args.self.now.nodes c.args.g) (sym c.in-Whole.is)

pub returns-in-Block-clause-owner : goal.returns-in-Block-clause-owner
unfolding owner_inside
returns-in-Block-clause-owner c =
    let d = c.args.self.now in
    rw c.block.ensures.length (ap (λ t. owner_by t d.size d.nodes c.args.g) (sym c.in-Block.is))

pub returns-in-Cyclic-clause-owner : goal.returns-in-Cyclic-clause-owner
unfolding owner_inside
returns-in-Cyclic-clause-owner c = ap (λ t. owner_by t c.args.self.now.size c.args.self.now.nodes c.args.g) (sym c.in-Cyclic.is)

pub returns-in-Gblock : goal.returns-in-Gblock
unfolding owner_inside
returns-in-Gblock c =
    let d = c.args.self.now in
    let e : c.chunk_of.result ≡ owner_by d.dist d.size d.nodes c.args.g =
    c.chunk_of.ensures ∙ ap (λ t. owner_by t d.size d.nodes c.args.g) (sym c.in-Gblock.is) in
    record { owner = e; node = omega (arith, owner_by_lt d.size d.nodes d.dist c.args.g d.valid c.requires) }
