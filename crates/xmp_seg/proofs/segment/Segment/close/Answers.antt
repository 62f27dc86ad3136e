use Rattle.std.proofs.Common.{◌≡◌, ℕ, ℤ, suc, ◌∙◌, ap, arith, length, refl, subst, sym, List}
use Rattle.std.specs.Mem.Slots.{slots_counts, slots_items}
use Rattle.xmp_script.specs.Script.{words_at}
use Rattle.xmp_seg.specs.Rule.{value_behind}
use Rattle.xmp_seg.specs.Seats.{AreWords}
use Rattle.xmp_seg.proofs.Closing.{final_words, if_ok_both}
use Rattle.xmp_seg.proofs.segment.Segment.close.Goals as goal

pub returns-clause-words : goal.returns-clause-words
returns-clause-words g c =
    let s = g.S.Script.script in
    let words : List ℕ = slots_items c.close_with-closed.result.words in
    let counts = slots_counts c.close_with-closed.result.words in
    if_ok_both c.data_words-words.result _ _ (λ (w : List ℤ). AreWords w (words_at s s.phases))
    (λ (w : List ℤ) long are. final_words s _ _ words _ w c.close_with-closed.ensures.values.2 c.gathered-all.ensures.seat
    (omega (arith, long, counts.0, c.close_with-closed.ensures.counts.0, c.word_count-count.ensures, c.self.invariant.1)) are)
    c.data_words-words.ensures.count c.data_words-words.ensures.words
