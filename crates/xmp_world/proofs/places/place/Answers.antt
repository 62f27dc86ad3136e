use Rattle.std.proofs.Common.{◌≡◌, ◌+◌, refl, sym, ap, ◌∙◌, arith}
use Rattle.xmp_map.specs.RowMajor.{unravel}
use Rattle.xmp_map.specs.Held.{slot}
use Rattle.xmp_world.specs.Gathering.{kept_before}
use Rattle.xmp_world.proofs.PlaceLaws.{has_three, holds_there, slot_is, kept_more, kept_most}
use Rattle.xmp_world.proofs.places.place.Goals as goal

pub returns-then-node-last-clause-slot : goal.returns-then-node-last-clause-slot
returns-then-node-last-clause-slot c =
    let m = c.args.m.now in
    let three = has_three m c.args.sizes.now c.requires.sizes c.told-sizes in
    let holds = holds_there m c.owner_of-node.result c.args.last.node (unravel c.args.sizes.now c.args.n) c.cell_of-cell.result.at c.if-node-last.true
    c.cell_of-cell.ensures.subscripts c.owner_of-node.ensures.holds in
    c.requires.last ∙ sym (slot_is m three c.args.last.node c.args.n c.args.sizes.now c.requires.sizes c.requires.below holds)

pub returns-then-node-last-clause-next : goal.returns-then-node-last-clause-next
returns-then-node-last-clause-next c =
    let m = c.args.m.now in
    let three = has_three m c.args.sizes.now c.requires.sizes c.told-sizes in
    let holds = holds_there m c.owner_of-node.result c.args.last.node (unravel c.args.sizes.now c.args.n) c.cell_of-cell.result.at c.if-node-last.true
    c.cell_of-cell.ensures.subscripts c.owner_of-node.ensures.holds in
    kept_more m three c.args.last.node c.args.n c.args.sizes.now c.requires.sizes holds ∙ ap (λ k. k + 1) (sym c.requires.last)

pub returns-then-node-last-clause-most : goal.returns-then-node-last-clause-most
returns-then-node-last-clause-most c =
    let most = kept_most c.args.m.now c.args.last.node c.args.n in
    omega (arith, most, c.requires.last)

pub returns-clause-next : goal.returns-clause-next
returns-clause-next c =
    let m = c.args.m.now in
    let three = has_three m c.args.sizes.now c.requires.sizes c.told-sizes in
    let holds = holds_there m c.owner_of-node.result c.owner_of-node.result (unravel c.args.sizes.now c.args.n) c.cell_of-cell.result.at refl
    c.cell_of-cell.ensures.subscripts c.owner_of-node.ensures.holds in
    let at : c.in-Some.kept ≡ kept_before m c.owner_of-node.result c.args.n = c.in-Some.ensures.slot
    ∙ (ap (slot m c.owner_of-node.result) c.cell_of-cell.ensures.subscripts
    ∙ slot_is m three c.owner_of-node.result c.args.n c.args.sizes.now c.requires.sizes c.requires.below holds) in
    kept_more m three c.owner_of-node.result c.args.n c.args.sizes.now c.requires.sizes holds ∙ ap (λ k. k + 1) (sym at)

pub returns-clause-most : goal.returns-clause-most
returns-clause-most c =
    let m = c.args.m.now in
    let three = has_three m c.args.sizes.now c.requires.sizes c.told-sizes in
    let holds = holds_there m c.owner_of-node.result c.owner_of-node.result (unravel c.args.sizes.now c.args.n) c.cell_of-cell.result.at refl
    c.cell_of-cell.ensures.subscripts c.owner_of-node.ensures.holds in
    let at : c.in-Some.kept ≡ kept_before m c.owner_of-node.result c.args.n = c.in-Some.ensures.slot
    ∙ (ap (slot m c.owner_of-node.result) c.cell_of-cell.ensures.subscripts
    ∙ slot_is m three c.owner_of-node.result c.args.n c.args.sizes.now c.requires.sizes c.requires.below holds) in
    let most = kept_most m c.owner_of-node.result c.args.n in
    omega (arith, most, at)
