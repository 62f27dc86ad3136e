use Rattle.std.proofs.Common.{◌≡◌, ◌++◌, map, drop}
use Rattle.xmp_parts.specs.Parts.{made_form}
use Rattle.xmp_parts.proofs.grids.made_forms.Given as goal

abbrev pub invariant-forms : goal.invariant-forms
invariant-forms l = map made_form l.forms ≡ l.done ++ map made_form (drop l.form-index l.forms)
