use Rattle.std.proofs.Common.{◌∙◌, ap, sym}
use Rattle.std.specs.Prelude.{slice_get}
use Rattle.xmp_names.specs.Lists.{parts}
use Rattle.xmp_names.proofs.Walks.{part_step, part_end}
use Rattle.xmp_directives.specs.MappingLines.{form_of}
use Rattle.xmp_directives.proofs.mapping_lines.forms_of.Goals as goal

pub list-preserved : goal.list-preserved
list-preserved c =
    c.list.invariant
    ∙ part_step form_of c.list.forms c.push.new.self (parts c.args.list.now) c.in-Some.x.now c.in_ok-form.form c.list.world c.form_of.new.world
    (ap (slice_get (parts c.args.list.now)) (sym c.len.ensures) ∙ sym c.in-Some.ensures.value) c.in_ok-form.ensures c.in_ok-push.ensures.ok

pub returns : goal.returns
returns c =
    c.list.invariant
    ∙ part_end form_of c.list.forms (parts c.args.list.now) c.list.world (ap (slice_get (parts c.args.list.now)) (sym c.len.ensures) ∙ sym c.in_default.ensures.value)
