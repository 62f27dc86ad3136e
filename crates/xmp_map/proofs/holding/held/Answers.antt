use Rattle.std.proofs.Common.{rules, ◌≡◌, ◌+◌, length, sym, ◌∙◌, arith}
use Rattle.xmp_dist.proofs.Counting.{count_below-le}
use Rattle.xmp_map.specs.Shadow.{holds_at}
use Rattle.xmp_map.specs.Held.{holds_on}
use Rattle.xmp_map.proofs.HoldLaws.{node_lt, holds_whole, count_below-all}
use Rattle.xmp_map.proofs.holding.held.Goals as goal

pub held_below-requires-clause-node : goal.held_below-requires-clause-node
held_below-requires-clause-node c =
    let t = c.args.template.now in
    let l : length t.grid.sizes ≡ 3 = search rules in
    let k = node_lt t c.args.dim.now.target.dim c.args.at.now c.in-Some.spread l c.requires.node (sym c.under.ensures ∙ c.in-Some.is) in
    omega (arith, c.node_along.ensures)

pub returns-in-None-clause-held : goal.returns-in-None-clause-held
returns-in-None-clause-held c =
    let l = c.args.dim.now in
    sym (count_below-all (holds_on c.args.template.now.spread c.args.at.now l) l.extent
    (λ x. holds_whole c.args.template.now.spread c.args.at.now l x (sym c.under.ensures ∙ c.in-None.is)))

pub returns-in-Some-clause-most : goal.returns-in-Some-clause-most
returns-in-Some-clause-most c =
    let l = c.args.dim.now in
    let h = count_below-le (λ x. holds_at c.in-Some.spread.dim c.node_along.result l.low l.high (x + c.offset.result)) l.extent in
    omega (arith, c.held_below.ensures)
