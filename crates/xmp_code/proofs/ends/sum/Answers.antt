use Rattle.std.proofs.Common.{◌≡◌, ◌∙◌, w64, rules}
use Rattle.std.specs.Prelude.{FitsSigned}
use Rattle.std.proofs.lemmas.Int.{to_z-of_z}
use Rattle.xmp_num.specs.declared.types.Ty.TheVariants.{Long}
use Rattle.xmp_num.proofs.Wraps.{wrap-add}
use Rattle.xmp_code.proofs.ends.sum.Goals as goal

pub returns : goal.returns
returns c =
    let fit : FitsSigned w64 c.convert.result = search rules in
    let fa : FitsSigned w64 c.args.a = search rules in
    let fb : FitsSigned w64 c.args.b = search rules in
    to_z-of_z w64 c.convert.result fit ∙ c.convert.ensures ∙ wrap-add Long c.args.a c.args.b fa fb
