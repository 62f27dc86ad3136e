use Rattle.std.proofs.Common.{◌+◌, subst, sym, take}
use Rattle.xmp_parts.specs.Parts.{EachMade, IsTemplate}
use Rattle.xmp_parts.proofs.MadeLists.{made_more}
use Rattle.xmp_parts.proofs.grids.made_templates.Goals as goal

pub list-preserved : goal.list-preserved
list-preserved c =
    subst (λ ts. EachMade (λ k line t. IsTemplate c.args.lines.now c.args.grid.now k t) 0 (take (c.list.k + 1) c.as_slice-list.result.now) ts) (sym c.in_ok-push.ensures.ok)
    (made_more (λ k line t. IsTemplate c.args.lines.now c.args.grid.now k t) c.as_slice-list.result.now c.list.made c.list.k c.index-list-k.result c.in_ok-template_at.field-0
    c.list-test.true c.index-list-k.is c.list.invariant c.in_ok-template_at.ensures)
