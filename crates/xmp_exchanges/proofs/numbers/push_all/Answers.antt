use Rattle.std.proofs.Common.{◌∙◌, ◌++◌, ◌∷◌, [], sym, ap, map, take, get_or, pos, append_assoc}
use Rattle.xmp_serial.specs.declared.sections.Chosen.TheVariants.{One}
use Rattle.xmp_serial.specs.Moves.{chosen_of}
use Rattle.xmp_exchanges.specs.Aims.{flat}
use Rattle.xmp_exchanges.proofs.FlatNumbers.{flat_more}
use Rattle.xmp_exchanges.proofs.numbers.push_all.Goals as goal

pub parts-preserved : goal.parts-preserved
parts-preserved c =
    let xs = c.args.parts.now in
    let k = c.parts.chosen-index in
    c.in_ok-push_chosen.ensures
    ∙ ap (λ r. r ++ flat (chosen_of (get_or xs k (One (pos 0))) ∷ [])) c.parts.invariant
    ∙ append_assoc c.args.all.now (flat (map chosen_of (take k xs))) (flat (chosen_of (get_or xs k (One (pos 0))) ∷ []))
    ∙ ap (λ r. c.args.all.now ++ r) (sym (flat_more chosen_of xs k (One (pos 0)) c.parts-test.true))
