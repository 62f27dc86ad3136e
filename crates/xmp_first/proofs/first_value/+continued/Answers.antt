use Rattle.std.proofs.Common.{◌≡◌, ◌∙◌, sym, ap, w64, pos, List, ◌∷◌}
use Rattle.std.proofs.lemmas.Int.{to_z-of_z}
use Rattle.xmp_first.specs.declared.first_item.Item.{Item}
use Rattle.xmp_first.specs.declared.first_item.Item.TheVariants.{Op}
use Rattle.xmp_first.specs.FirstMeaning.{sum_value}
use Rattle.xmp_first.specs.FirstTree.{operand_of, extended, continued}
use Rattle.xmp_first.proofs.first_value.+continued.Goals as goal

pub returns : goal.returns
returns t c = λ tree e.
    let second = c.in-Some-split_first.second.now in
    let rest = c.in-Some-split_first.rest.now in
    let more = extended tree c.in-Op.op (operand_of second) in
    let items : c.args.items.now ≡ Op c.in-Op.op ∷ second ∷ rest =
    c.in-Some.ensures.cases.0 ∙ ap (λ (y : Item). y ∷ c.in-Some.behind.now) c.in-Op.is ∙ ap (λ (ys : List Item). Op c.in-Op.op ∷ ys) c.in-Some-split_first.ensures.cases.0 in
    let operand = to_z-of_z w64 c.operand.result (record { sfits = c.operand.type_inv }) ∙ c.operand.ensures in
    to_z-of_z w64 c.continued.result (record { sfits = c.continued.type_inv })
    ∙ c.continued.ensures more (c.extended.ensures tree (operand_of second) (pos c.args.index) e operand)
    ∙ sym (ap (λ (xs : List Item). sum_value (continued tree xs) (pos c.args.index)) items)
