use Rattle.std.proofs.Common.{◌≡◌, ◌∷◌, ◌++◌, [], ℕ, ℤ, List, suc, ◌+◌, ◌∙◌, ap, arith, length, slice_index, FitsSigned, subst, sym}
use Rattle.std.specs.Int.{w64, cast_signed, cast_unsigned}
use Rattle.std.proofs.lemmas.Int.{to_z-of_z}
use Rattle.std.proofs.Math.Facts.{sfits_to_z}
use Rattle.std.specs.Mem.Slots.{slots_items}
use Rattle.xmp_seg.specs.Rule.{value_behind}
use Rattle.xmp_seg.specs.Seats.{AreWords}
use Rattle.xmp_seg.proofs.Closing.{found_there, length_last, words_grow}
use Rattle.xmp_seg.proofs.making.data_words.Goals as goal

pub loop-e-preserved : goal.loop-e-preserved
loop-e-preserved c =
    let table : List ℕ = slots_items c.args.closed.now.words in
    let f : ℕ → ℤ = value_behind table in
    let e : ℕ = c.loop-e.e in
    let got : ℤ = c.cast_signed.result in
    let v : ℤ = cast_signed w64 (cast_unsigned w64 got) in
    let fits : FitsSigned w64 got = subst (λ (z : ℤ). FitsSigned w64 z) (sym c.cast_signed.ensures) (sfits_to_z {w = w64} record { fits = c.word.type_inv }) in
    let found = found_there table (e + 1) c.word.result c.word.ensures in
    let next : e + 1 ≡ suc (length c.loop-e.words) = omega (arith, c.loop-e.invariant.0) in
    let is : v ≡ f (length c.loop-e.words) = to_z-of_z w64 got fits ∙ c.cast_signed.ensures ∙ ap (λ (n : ℕ). cast_signed w64 n) (sym found ∙ ap (λ (i : ℕ). slice_index table i) next) in
    let pushed = c.in_ok-push.ensures.ok in (
      ap (λ (l : List ℤ). length l) pushed ∙ length_last c.loop-e.words v ∙ omega (arith, c.loop-e.invariant.0),
      subst (λ (l : List ℤ). AreWords l f) (sym pushed) (words_grow c.loop-e.words f v c.loop-e.invariant.1 is),
    )
