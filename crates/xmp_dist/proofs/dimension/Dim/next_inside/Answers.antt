use Rattle.std.proofs.Common.{◌≡◌, sym, ap, ◌∙◌, arith}
use Rattle.xmp_dist.specs.Owner.{owner_inside, owned_below}
use Rattle.std.specs.Prelude.{◌==◌}
use Rattle.xmp_dist.proofs.Counting.{least_from, none_between}
use Rattle.xmp_dist.proofs.Owned.{owns_true}
use Rattle.xmp_dist.proofs.dimension.Dim.next_inside.Goals as goal

pub returns-then-below-count-clause-from : goal.returns-then-below-count-clause-from
returns-then-below-count-clause-from c =
    let d = c.args.self.now in
    least_from (λ y. owner_inside d y == c.args.c) c.args.g c.global.result
    (owns_true d c.args.c c.global.result c.global.ensures.owner)
    (ap (λ k. owned_below d k c.global.result) (sym c.global.ensures.owner) ∙ c.global.ensures.local ∙ c.owned_below-below.ensures)

pub returns-then-below-count-clause-least : goal.returns-then-below-count-clause-least
returns-then-below-count-clause-least c x gx xr e =
    let d = c.args.self.now in
    let same : owned_below d c.args.c c.global.result ≡ owned_below d c.args.c c.args.g =
    ap (λ k. owned_below d k c.global.result) (sym c.global.ensures.owner) ∙ c.global.ensures.local ∙ c.owned_below-below.ensures in
    none_between (λ y. owner_inside d y == c.args.c) c.args.g c.global.result x (omega arith) gx xr (owns_true d c.args.c x e)

pub returns-else-below-count-clause-least : goal.returns-else-below-count-clause-least
returns-else-below-count-clause-least c x gx xr e =
    let d = c.args.self.now in
    none_between (λ y. owner_inside d y == c.args.c) c.args.g d.size x (omega arith) gx xr (owns_true d c.args.c x e)
