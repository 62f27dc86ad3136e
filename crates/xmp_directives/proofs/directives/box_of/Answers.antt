use Rattle.std.proofs.Common.{◌≡◌, ◌∙◌, ap, sym, arith, rules}
use Rattle.std.proofs.lemmas.Int.{ints}
use Rattle.xmp_directives.specs.Directives.{node_number}
use Rattle.xmp_directives.proofs.NodeBoxes.{box_is}
use Rattle.xmp_directives.proofs.directives.box_of.Goals as goal
use mir.Syntax.{w128}
use mir.Val.{SFits, of_z, to_z}

pub returns : goal.returns
returns c =
    let a0 : SFits w128 c.range_at-a.result.0 = search rules in
    let a1 : SFits w128 c.range_at-a.result.1 = search rules in
    let b0 : SFits w128 c.range_at-b.result.0 = search rules in
    let b1 : SFits w128 c.range_at-b.result.1 = search rules in
    let c0 : SFits w128 c.range_at-c.result.0 = search rules in
    let c1 : SFits w128 c.range_at-c.result.1 = search rules in
    let d0 : to_z w128 (of_z w128 c.range_at-a.result.0) ≡ c.range_at-a.result.0 = omega (arith, ints) in
    let d1 : to_z w128 (of_z w128 c.range_at-a.result.1) ≡ c.range_at-a.result.1 = omega (arith, ints) in
    let e0 : to_z w128 (of_z w128 c.range_at-b.result.0) ≡ c.range_at-b.result.0 = omega (arith, ints) in
    let e1 : to_z w128 (of_z w128 c.range_at-b.result.1) ≡ c.range_at-b.result.1 = omega (arith, ints) in
    let f0 : to_z w128 (of_z w128 c.range_at-c.result.0) ≡ c.range_at-c.result.0 = omega (arith, ints) in
    let f1 : to_z w128 (of_z w128 c.range_at-c.result.1) ≡ c.range_at-c.result.1 = omega (arith, ints) in
    box_is c.args.sizes.now c.args.ranges.now c.range_at-a.result c.range_at-b.result c.range_at-c.result
    c.node_number.result c.node_number-2.result c.node_number-3.result c.node_number-4.result c.node_number-5.result c.node_number-6.result
    (sym c.is_box.ensures ∙ c.if-not-is_box.false) c.range_at-a.ensures c.range_at-b.ensures c.range_at-c.ensures
    (c.node_number.ensures ∙ ap node_number d0) (c.node_number-2.ensures ∙ ap node_number e0) (c.node_number-3.ensures ∙ ap node_number f0)
    (c.node_number-4.ensures ∙ ap node_number d1) (c.node_number-5.ensures ∙ ap node_number e1) (c.node_number-6.ensures ∙ ap node_number f1)
