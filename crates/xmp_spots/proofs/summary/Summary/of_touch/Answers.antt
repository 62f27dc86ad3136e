use Rattle.std.proofs.Common.{◌≡◌, ◌∷◌, ◌++◌, [], refl, ap, ◌∙◌, subst}
use Rattle.xmp_base.specs.First.{IsFirst}
use Rattle.xmp_spots.specs.Races.{ClashesWith}
use Rattle.xmp_spots.proofs.SummaryLaws.{sums_touch}
use Rattle.xmp_spots.proofs.summary.Summary.of_touch.Goals as goal

pub returns : goal.returns
returns c =
    let t = c.args.touch.now in
    let e : c.add_copy.new.self ≡ t ∷ [] = c.in_ok-add_copy.ensures.ok ∙ ap (λ l. l ++ t ∷ []) c.new-early.ensures in
    sums_touch t _ c.ask-found.result refl refl refl e refl (subst (λ l. IsFirst (ClashesWith t l) c.ask-found.result) e c.ask-found.ensures)
