use Rattle.std.proofs.Common.{◌∙◌, sym, ap, set, get_or, pos, rules, w64}
use Rattle.std.specs.Prelude.{FitsSigned}
use Rattle.std.proofs.lemmas.Int.{to_z-of_z}
use Rattle.xmp_exchanges.proofs.WrittenWords.{none_written, more_written}
use Rattle.xmp_exchanges.proofs.unpacking.write_slots.Goals as goal

pub loop-k-init : goal.loop-k-init
loop-k-init c = none_written c.args.store.now c.args.slots.now c.args.words.now

pub loop-k-preserved : goal.loop-k-preserved
loop-k-preserved c =
    let fit : FitsSigned w64 (get_or c.args.words.now c.loop-k.k (pos 0)) = search rules in
    ap (λ w. set c.loop-k.store (get_or c.args.slots.now c.loop-k.k 0) w) (to_z-of_z w64 (get_or c.args.words.now c.loop-k.k (pos 0)) fit)
    ∙ ap (λ s. set s (get_or c.args.slots.now c.loop-k.k 0) (get_or c.args.words.now c.loop-k.k (pos 0))) c.loop-k.invariant
    ∙ sym (more_written c.args.store.now c.args.slots.now c.args.words.now c.loop-k.k c.requires.long c.loop-k-test.true)
