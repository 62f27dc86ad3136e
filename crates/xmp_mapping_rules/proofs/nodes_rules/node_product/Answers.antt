use Rattle.std.proofs.Common.{◌≡◌, ◌∙◌, ap, arith, rules, get_or, pos}
use Rattle.std.proofs.lemmas.Int.{ints}
use Rattle.xmp_names.specs.Sizes.{natural}
use Rattle.xmp_mapping_rules.proofs.Limits.{node_step, node_end, one_factor}
use Rattle.xmp_mapping_rules.proofs.nodes_rules.node_product.Goals as goal
use mir.Syntax.{w64}
use mir.Val.{SFits, of_z, to_z}

pub sizes-init : goal.sizes-init
sizes-init c = (omega arith, one_factor 4194304 _)

pub sizes-preserved : goal.sizes-preserved
sizes-preserved c =
    let f : SFits w64 (get_or c.args.sizes.now c.sizes.size-index (pos 0)) = search rules in
    let e : to_z w64 (of_z w64 (get_or c.args.sizes.now c.sizes.size-index (pos 0))) ≡ get_or c.args.sizes.now c.sizes.size-index (pos 0) = omega (arith, ints) in (
      omega arith,
      node_step 4194304 c.args.sizes.now c.sizes.size-index c.sizes.product c.natural.result c.limited_product-product.result _ c.sizes-test.true
          (c.natural.ensures ∙ ap natural e) c.limited_product-product.ensures c.sizes.invariant.1,
    )

pub returns : goal.returns
returns c = node_end 4194304 c.args.sizes.now c.sizes.size-index c.sizes.product c.sizes-test.false c.sizes.invariant.0 c.sizes.invariant.1
