use Rattle.std.proofs.Common.{◌∙◌, ap}
use Rattle.xmp_loops.specs.Offsets.{offsets_along}
use Rattle.xmp_loops.specs.Views.{reach_of}
use Rattle.xmp_loops.proofs.ReachLaws.{reach_more, reach_end}
use Rattle.xmp_loops.proofs.offsets.offsets_of.Goals as goal

pub dims-preserved : goal.dims-preserved
dims-preserved c =
    reach_more c.args.d.now c.args.map.now.template.spread c.as_slice-l-items.result.now c.args.subscripts.now c.dims.k _ c.dims-test.true
    c.dims.all c.along-one.result c.joined-all.result _ _ c.joined-all.ensures c.along-one.ensures c.at.ensures c.dims.invariant

pub returns : goal.returns
returns c =
    reach_end c.args.d.now c.args.map.now.template.spread c.as_slice-l-items.result.now _ c.dims.k c.dims-test.false c.dims.all _ c.dims.invariant
    ∙ ap (λ l. reach_of (offsets_along c.args.d.now c.args.map.now.template.spread l c.args.subscripts.now)) c.as_slice-l-items.ensures
