use Rattle.std.proofs.Common.{◌≡◌, ◌-◌, ◌+◌, ◌++◌, [], ◌∷◌, Bool, None, Some, map, ap, sym, ◌∙◌, if◌then◌else◌, of_z, to_z, rules}
use Rattle.std.specs.List.{range_with_len}
use Rattle.std.specs.Int.{w64}
use Rattle.xmp_spots.specs.Images.{all_given, value_on, image_values, is_built}
use Rattle.xmp_spots.proofs.ImageLaws.{then_given, none_given, next_given, when_built}
use Rattle.xmp_spots.proofs.expressions.image_values.Goals as goal

pub returns-in-None : goal.returns-in-None
returns-in-None c =
    sym (none_given (λ image. value_on c.args.count c.args.values.now image c.args.e.now) c.args.count c.images.image c.images.found
    c.images-test.true (sym c.in-None.ensures))
    ∙ (c.images.invariant ∙ when_built c.args.count c.args.values.now c.args.e.now c.is_built.result c.is_built.ensures c.if-not-is_built.false)

pub images-preserved : goal.images-preserved
images-preserved c =
    let w : to_z w64 (of_z w64 c.in-Some.value) ≡ c.in-Some.value = search rules in
    ap (λ vs. then_given vs (all_given (map (λ image. value_on c.args.count c.args.values.now image c.args.e.now)
    (range_with_len (c.images.image + 1) (c.args.count - (c.images.image + 1)))))) (c.in_ok-push-in-Some.ensures.ok ∙ ap (λ v. c.images.found ++ v ∷ []) w)
    ∙ (sym (next_given (λ image. value_on c.args.count c.args.values.now image c.args.e.now) c.args.count c.images.image c.images.found
    c.in-Some.value c.images-test.true (sym c.in-Some.ensures))
    ∙ c.images.invariant)
