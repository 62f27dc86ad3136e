use Rattle.std.proofs.Common.{◌≡◌, ◌∙◌, ap, arith, rules}
use Rattle.std.specs.Prelude.{slice_get}
use Rattle.std.proofs.lemmas.Int.{ints}
use Rattle.xmp_names.specs.Sizes.{lower_at}
use Rattle.xmp_mapping_rules.specs.MappingRules.{distributes, point_fits}
use Rattle.xmp_mapping_rules.proofs.align_rules.point_at.Goals as goal
use mir.Syntax.{w64}
use mir.Val.{SFits, of_z, to_z}

pub returns : goal.returns
returns c =
    let f : SFits w64 c.lower_at-lower.result = search rules in
    let e : to_z w64 (of_z w64 c.lower_at-lower.result) ≡ c.lower_at-lower.result = omega (arith, ints) in
    c.point_fits.ensures
    ∙ (ap (λ s. point_fits c.args.extents.now s (to_z w64 (of_z w64 c.lower_at-lower.result)) c.size_at-size.result c.args.point) c.distributes-spread.ensures
    ∙ (ap (λ l. point_fits c.args.extents.now (distributes (slice_get c.args.forms.now c.args.i)) l c.size_at-size.result c.args.point) (e ∙ c.lower_at-lower.ensures)
    ∙ ap (λ o. point_fits c.args.extents.now (distributes (slice_get c.args.forms.now c.args.i)) (lower_at c.args.lowers.now c.args.i) o c.args.point) c.size_at-size.ensures))
