-- The ends of all parts, and their values, node by node.
use Rattle.std.proofs.Common.{◌≡◌, ◌≤◌, ◌<◌, ◌+◌, ℕ, zero, suc, List, [], ◌∷◌, ◌++◌, map, length, drop, get_or, ℤ, Option, Some, None, refl, sym, ap, ◌∙◌, arith}
use Rattle.std.specs.List.{fold, range_with_len}
use Rattle.std.specs.Option.{option_map}
use Rattle.std.proofs.lemmas.List.FromFn.{map-range_with_len_more}
use Rattle.xmp_num.specs.Reduction.{combine_of}
use Rattle.xmp_meaning.specs.TrapWords.{SaidTrap}
use Rattle.xmp_instr.specs.declared.meeting.Reduced.{Reduced}
use Rattle.xmp_instr.specs.Resumed.{all_of, combined_from, earliest_trap, joined}
use Rattle.xmp_message.specs.declared.Message.{Message}
use Rattle.xmp_instr.proofs.Lists.{unrolled}
use Rattle.xmp_machine.specs.Resuming.{reduced_words, with_earlier, with_reduced}

pub ranged : {A : Type 0} (f : ℕ → A) (a b k : ℕ) → a + 1 ≡ b → map f (range_with_len a (k + 1)) ≡ f a ∷ map f (range_with_len b k)
ranged f a b k e = let s : k + 1 ≡ suc k = omega arith in rw s (ap (λ x. f a ∷ map f (range_with_len x k)) e)

both : (o : Option (Option SaidTrap)) (rest : Option (List (Option SaidTrap))) → option_map earliest_trap (joined o rest) ≡ with_earlier o (option_map earliest_trap rest)
both None rest = refl
both (Some a) None = refl
both (Some a) (Some ts) = refl

-- the earliest of one and those behind it
pub earliest_of : (o : Option (Option SaidTrap)) (os : List (Option (Option SaidTrap))) → option_map earliest_trap (all_of (o ∷ os)) ≡ with_earlier o (option_map earliest_trap (all_of os))
earliest_of o os = both o (all_of os)

fold_more : (f : ℤ → ℤ → ℤ) (a : ℤ) (xs : List ℤ) (v : ℤ) → fold f a (xs ++ v ∷ []) ≡ f (fold f a xs) v
fold_more f a [] v = refl
fold_more f a (x ∷ xs) v = fold_more f (f a x) xs v

combined_on : (r : Reduced) (xs : List ℤ) (v : ℤ) → 1 ≤ length xs → combined_from r (xs ++ v ∷ []) ≡ combine_of r.op r.ty (combined_from r xs) v
combined_on r [] v h = absurd (omega arith)
combined_on r (x ∷ xs) v h = fold_more (combine_of r.op r.ty) x xs v

some_ranged : (f : ℕ → ℤ) (k : ℕ) → 1 ≤ k → 1 ≤ length (map f (range_with_len 0 k))
some_ranged f zero h = absurd (omega arith)
some_ranged f (suc k) h = omega arith

-- the values of one node more
pub combined_more : (r : Reduced) (f : ℕ → ℤ) (k : ℕ) → 1 ≤ k
    → combined_from r (map f (range_with_len 0 (k + 1))) ≡ combine_of r.op r.ty (combined_from r (map f (range_with_len 0 k))) (f k)
combined_more r f k h =
    ap (combined_from r) (map-range_with_len_more f 0 k k (omega arith)) ∙ combined_on r (map f (range_with_len 0 k)) (f k) (some_ranged f k h)

-- one variable more is written, before those behind it
pub reduced_step : (nodes node : ℕ) (heard : List (Option Message)) (rs : List Reduced) (k left : ℕ) (r : Reduced) (store words next : List ℤ) → k + 1 ≡ left → k < length rs
    → r ≡ get_or rs k r → words ≡ reduced_words nodes node heard left (drop left rs) store → next ≡ with_reduced nodes node heard k (Some r) (drop (k + 1) rs) words
    → next ≡ reduced_words nodes node heard k (drop k rs) store
reduced_step nodes node heard rs k left r store words next e h is w n =
    let s : left ≡ suc k = omega arith in
    n
    ∙ ap (with_reduced nodes node heard k (Some r) (drop (k + 1) rs))
    (w ∙ ap (λ x. reduced_words nodes node heard x (drop left rs) store) s ∙ ap (λ x. reduced_words nodes node heard (suc k) (drop x rs) store) (sym e))
    ∙ sym (ap (λ xs. reduced_words nodes node heard k xs store) (unrolled rs k r h)
    ∙ ap (λ q. reduced_words nodes node heard k (q ∷ drop (k + 1) rs) store) (sym is))
