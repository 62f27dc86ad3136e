use Rattle.std.proofs.Common.{◌≡◌, subst, sym, IsTrue, None, map}
use Rattle.std.specs.List.{list_all}
use Rattle.xmp_map.specs.Spread.{template_fault}
use Rattle.xmp_names.specs.Sizes.{natural}
use Rattle.xmp_parts.specs.Narrow.{is_narrow, is_narrow_form}
use Rattle.xmp_parts.specs.Parts.{made_form}
use Rattle.xmp_parts.proofs.FormsFit.{template_facts}
use Rattle.xmp_parts.proofs.grids.template_at.Goals as goal

pub made_template-requires-clause-sizes : goal.made_template-requires-clause-sizes
made_template-requires-clause-sizes c =
    let facts = template_facts c.args.lines.now c.args.k c.args.line.now c.args.grid.now c.requires.unbroken c.requires.count c.requires.grid c.requires.line in
    subst (λ ns. IsTrue (list_all is_narrow ns)) (sym c.as_slice.ensures) facts.narrow

pub made_template-requires-clause-forms : goal.made_template-requires-clause-forms
made_template-requires-clause-forms c =
    let facts = template_facts c.args.lines.now c.args.k c.args.line.now c.args.grid.now c.requires.unbroken c.requires.count c.requires.grid c.requires.line in
    subst (λ fs. IsTrue (list_all is_narrow_form fs)) (sym c.forms_of-forms.ensures) facts.narrow_forms

pub made_template-requires-clause-right : goal.made_template-requires-clause-right
made_template-requires-clause-right c =
    let facts = template_facts c.args.lines.now c.args.k c.args.line.now c.args.grid.now c.requires.unbroken c.requires.count c.requires.grid c.requires.line in
    subst (λ ns. template_fault c.args.grid.now.dims c.args.grid.now.sizes (map natural ns) (map made_form c.forms_of-forms.result.now) ≡ None) (sym c.as_slice.ensures)
    (subst (λ fs. template_fault c.args.grid.now.dims c.args.grid.now.sizes (map natural c.args.line.now.sizes) (map made_form fs) ≡ None) (sym c.forms_of-forms.ensures) facts.right)
