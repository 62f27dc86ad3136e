-- Words that are not three are those of no end.
use Rattle.std.proofs.Common.{◌≡◌, ◌≢◌, ℕ, suc, Bool, true, false, ◌&&◌, List, [], ◌∷◌, length, ℤ, Option, Some, None, refl, ap, ◌∙◌, sym, if◌then◌else◌}
use Rattle.std.specs.Ordering.{int_eq}
use Rattle.xmp_meaning.specs.TrapWords.{SaidTrap, trap_said}
use Rattle.std.specs.Option.{option_map}
use Rattle.xmp_instr.specs.Resumed.{loop_end_read, read_back, same_words, task_end_read, without_indices, words_of}

and_false : (t : Bool) → (t && false) ≡ false
and_false true = refl
and_false false = refl

other : (a b : List ℤ) → length a ≢ length b → same_words a b ≡ false
other [] [] h = absurd (h refl)
other [] (b ∷ bs) h = refl
other (a ∷ vs) [] h = refl
other (a ∷ vs) (b ∷ bs) h = ap (λ t. int_eq a b && t) (other vs bs (λ e. h (ap (λ n. suc n) e))) ∙ and_false (int_eq a b)

three : (t : Option SaidTrap) → length (words_of t) ≡ 3
three None = refl
three (Some t) = refl

not_read : (t : Option SaidTrap) (words : List ℤ) → length words ≢ 3 → read_back t words ≡ None
not_read t words h = ap (λ b. if b then Some t else None) (other words (words_of t) (λ e. h (e ∙ three t)))

pub no_loop_end : (words : List ℤ) → length words ≢ 3 → loop_end_read words ≡ None
no_loop_end words h = not_read (trap_said words) words h

pub no_task_end : (words : List ℤ) → length words ≢ 3 → task_end_read words ≡ None
no_task_end words h = not_read (option_map without_indices (trap_said words)) words h
