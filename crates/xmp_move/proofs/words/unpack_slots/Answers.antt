use Rattle.std.proofs.Common.{◌∙◌, sym, ap, set, get_or, pos, rules, w64}
use Rattle.std.specs.Prelude.{FitsSigned}
use Rattle.std.proofs.lemmas.Int.{to_z-of_z}
use Rattle.xmp_num.specs.Arithmetic.{wrap}
use Rattle.xmp_move.proofs.WordLaws.{write_none, write_more}
use Rattle.xmp_move.proofs.words.unpack_slots.Goals as goal

pub loop-k-init : goal.loop-k-init
loop-k-init c = write_none (wrap c.args.ty) c.args.store.now c.args.slots.now c.args.words.now

pub loop-k-preserved : goal.loop-k-preserved
loop-k-preserved c =
    let fit_in : FitsSigned w64 (get_or c.args.words.now c.loop-k.k (pos 0)) = search rules in
    let fit_out : FitsSigned w64 c.convert.result = search rules in
    ap (λ w. set c.loop-k.store (get_or c.args.slots.now c.loop-k.k 0) w)
    (to_z-of_z w64 c.convert.result fit_out ∙ c.convert.ensures ∙ ap (wrap c.args.ty) (to_z-of_z w64 (get_or c.args.words.now c.loop-k.k (pos 0)) fit_in))
    ∙ ap (λ s. set s (get_or c.args.slots.now c.loop-k.k 0) (wrap c.args.ty (get_or c.args.words.now c.loop-k.k (pos 0)))) c.loop-k.invariant
    ∙ sym (write_more (wrap c.args.ty) c.args.store.now c.args.slots.now c.args.words.now c.loop-k.k c.requires.long c.loop-k-test.true)
