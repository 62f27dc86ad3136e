use Rattle.std.proofs.Common.{◌∙◌, ap, sym}
use Rattle.std.specs.Prelude.{slice_get}
use Rattle.xmp_names.specs.Lists.{parts}
use Rattle.xmp_names.proofs.Walks.{part_step, part_end}
use Rattle.xmp_directives.specs.MappingLines.{align_point}
use Rattle.xmp_directives.proofs.align_lines.align_points.Goals as goal

pub list-preserved : goal.list-preserved
list-preserved c =
    c.list.invariant
    ∙ part_step (align_point c.args.known.now) c.list.points c.push.new.self (parts c.args.list.now) c.in-Some.x.now c.in_ok-point.point c.list.world c.align_point.new.world
    (ap (slice_get (parts c.args.list.now)) (sym c.len.ensures) ∙ sym c.in-Some.ensures.value) c.in_ok-point.ensures c.in_ok-push.ensures.ok

pub returns : goal.returns
returns c =
    c.list.invariant
    ∙ part_end (align_point c.args.known.now) c.list.points (parts c.args.list.now) c.list.world (ap (slice_get (parts c.args.list.now)) (sym c.len.ensures) ∙ sym c.in_default.ensures.value)
