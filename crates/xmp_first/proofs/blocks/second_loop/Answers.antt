use Rattle.std.proofs.Common.{rules, ◌∙◌, sym, ap, ℤ, pos, ◌+ℤ◌, List, take, get_or, w64, to_z, of_z, FitsSigned}
use Rattle.std.proofs.lemmas.Int.{to_z-of_z}
use Rattle.std.proofs.lemmas.List.{take_more}
use Rattle.xmp_num.specs.declared.types.Ty.TheVariants.{Int}
use Rattle.xmp_num.specs.Arithmetic.{wrap}
use Rattle.xmp_first.specs.Blocks.{summed}
use Rattle.xmp_first.proofs.BlockLaws.{summed-last}
use Rattle.xmp_first.proofs.blocks.second_loop.Goals as goal

pub loop-value-preserved : goal.loop-value-preserved
loop-value-preserved c =
    let cells = c.args.cells.now in
    let k = c.loop-value.value-index in
    let start : ℤ = to_z w64 (of_z w64 c.args.start) in
    let value : ℤ = get_or cells k (pos 0) in
    let fits : FitsSigned w64 (get_or cells k (pos 0)) = search rules in
    to_z-of_z w64 c.added-sum.result (record { sfits = c.added-sum.type_inv })
    ∙ c.added-sum.ensures
    ∙ ap (λ (z : ℤ). wrap Int (z +ℤ to_z w64 (of_z w64 value))) c.loop-value.invariant
    ∙ ap (λ (z : ℤ). wrap Int (summed start (take k cells) +ℤ z)) (to_z-of_z w64 value fits)
    ∙ sym (summed-last start (take k cells) value)
    ∙ sym (ap (λ (xs : List ℤ). summed start xs) (take_more cells k (pos 0) c.loop-value-test.true))
