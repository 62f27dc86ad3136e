use Rattle.std.proofs.Common.{◌∙◌, ap}
use Rattle.xmp_names.specs.declared.mappings.Form.TheVariants as form
use Rattle.xmp_names.specs.Walk.{and_then, pure}
use Rattle.xmp_directives.specs.MappingLines.{form_of}
use Rattle.xmp_directives.proofs.mapping_lines.form_of.Goals as goal

pub returns-in_ok-lengths-in-Gblock : goal.returns-in_ok-lengths-in-Gblock
returns-in_ok-lengths-in-Gblock c =
    ap (λ f. form_of f c.args.world.now) c.in-Gblock.is ∙ ap (λ s. and_then s (λ ns. pure (form.Gblock ns))) c.in_ok-lengths-in-Gblock.ensures
