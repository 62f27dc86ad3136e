use Rattle.std.proofs.Common.{◌∙◌, ◌*◌, ap, arith, min}
use Rattle.xmp_mapping_rules.proofs.Limits.{cell_step, cell_end, one_factor}
use Rattle.xmp_mapping_rules.proofs.cell_rules.cells_in.Goals as goal

pub extents-init : goal.extents-init
extents-init c = (omega arith, one_factor 4194304 _)

pub extents-preserved : goal.extents-preserved
extents-preserved c = (
  omega arith,
  cell_step 4194304 c.args.extents.now c.extents.extent-index c.extents.product c.limited_product-product.result _ c.extents-test.true
      (c.limited_product-product.ensures ∙ ap (λ m. min (c.extents.product * m) 4194305) c.from.ensures) c.extents.invariant.1,
)

pub returns : goal.returns
returns c = cell_end 4194304 c.args.extents.now c.extents.extent-index c.extents.product c.extents-test.false c.extents.invariant.0 c.extents.invariant.1
