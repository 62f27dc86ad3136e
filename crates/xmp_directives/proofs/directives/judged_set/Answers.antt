use Rattle.std.proofs.Common.{◌∙◌, ap}
use Rattle.xmp_directives.specs.Directives.{box_of, ranges}
use Rattle.xmp_directives.proofs.NodeSets.{judged, judged_walk}
use Rattle.xmp_directives.proofs.directives.judged_set.Goals as goal

pub returns : goal.returns
returns c =
    judged_walk c.args.one_node c.args.word c.args.number c.in_ok-sizes.sizes c.args.pieces.now c.in_ok-rs.rs c.set_right-right.result c.box_of.result
    c.in_ok-judge.field-0 c.args.world.now c.judge.new.self
    c.in_ok-sizes.ensures (c.in_ok-rs.ensures ∙ ap (λ l. ranges l c.args.pieces.now) c.as_slice.ensures)
    (c.set_right-right.ensures ∙ (ap (λ l. judged c.args.one_node l c.as_slice-3.result.now) c.as_slice-2.ensures ∙ ap (judged c.args.one_node c.in_ok-sizes.sizes) c.as_slice-3.ensures))
    c.in_ok-judge.ensures
    (c.box_of.ensures ∙ (ap (λ l. box_of l c.as_slice-5.result.now) c.as_slice-4.ensures ∙ ap (box_of c.in_ok-sizes.sizes) c.as_slice-5.ensures))
