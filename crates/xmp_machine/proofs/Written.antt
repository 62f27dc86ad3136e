-- Words written one after the other.
use Rattle.std.proofs.Common.{◌≡◌, ◌<◌, ◌≤◌, ◌+◌, ℕ, List, [], ◌∷◌, length, drop, ℤ, pos, get_or, set, refl, ap, ◌∙◌, arith, min, inl, inr}
use Rattle.std.proofs.lemmas.List.{drop_all}
use Rattle.std.proofs.lemmas.Bool.{cases_lt}
use Rattle.xmp_move.specs.Stores.{write_all}
use Rattle.xmp_instr.proofs.Lists.{unrolled}

pub write_step : (store : List ℤ) (slots : List ℕ) (said : List ℤ) (k : ℕ) → k < length slots → k < length said
    → write_all store (drop k slots) (drop k said) ≡ write_all (set store (get_or slots k 0) (get_or said k (pos 0))) (drop (k + 1) slots) (drop (k + 1) said)
unfolding write_all
write_step store slots said k h g =
    ap (λ xs. write_all store xs (drop k said)) (unrolled slots k 0 h)
    ∙ ap (λ ys. write_all store (get_or slots k 0 ∷ drop (k + 1) slots) ys) (unrolled said k (pos 0) g)

no_words : (store : List ℤ) (slots : List ℕ) → write_all store slots [] ≡ store
unfolding write_all
no_words store [] = refl
no_words store (s ∷ ss) = refl

no_slots : (store : List ℤ) (said : List ℤ) → write_all store [] said ≡ store
unfolding write_all
no_slots store said = refl

pub write_end : (store : List ℤ) (slots : List ℕ) (said : List ℤ) (k : ℕ) → min (length slots) (length said) ≤ k → write_all store (drop k slots) (drop k said) ≡ store
write_end store slots said k h = elim (cases_lt k (length slots)) [
  | inl more ↦ ap (λ ys. write_all store (drop k slots) ys) (drop_all k said (omega arith)) ∙ no_words store (drop k slots)
  | inr all ↦ ap (λ xs. write_all store xs (drop k said)) (drop_all k slots all) ∙ no_slots store (drop k said)
]
