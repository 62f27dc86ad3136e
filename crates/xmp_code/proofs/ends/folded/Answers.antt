use Rattle.std.proofs.Common.{◌≡◌, ◌∙◌, ap, ◌+ℤ◌, ◌*ℤ◌, w64, rules, to_z, of_z}
use Rattle.std.specs.Prelude.{FitsSigned}
use Rattle.std.proofs.lemmas.Int.{to_z-of_z, int_wrap-add_left}
use Rattle.xmp_num.specs.Arithmetic.{wrap}
use Rattle.xmp_num.specs.declared.types.Ty.TheVariants.{Long}
use Rattle.xmp_code.proofs.ends.folded.Goals as goal

pub returns : goal.returns
returns c =
    let fit : FitsSigned w64 c.sum.result = search rules in
    let in_fit : FitsSigned w64 c.product.result = search rules in
    let fa : FitsSigned w64 c.args.a = search rules in
    let fn : FitsSigned w64 c.args.n = search rules in
    let fb : FitsSigned w64 c.args.b = search rules in
    to_z-of_z w64 c.sum.result fit ∙ c.sum.ensures
    ∙ ap (λ y. wrap Long (to_z w64 (of_z w64 c.product.result) +ℤ y)) (to_z-of_z w64 c.args.b fb)
    ∙ ap (λ p. wrap Long (p +ℤ c.args.b)) (to_z-of_z w64 c.product.result in_fit ∙ c.product.ensures
    ∙ ap (λ x. wrap Long (x *ℤ to_z w64 (of_z w64 c.args.n))) (to_z-of_z w64 c.args.a fa)
    ∙ ap (λ y. wrap Long (c.args.a *ℤ y)) (to_z-of_z w64 c.args.n fn))
    ∙ int_wrap-add_left w64 (c.args.a *ℤ c.args.n) c.args.b
