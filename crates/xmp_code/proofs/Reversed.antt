-- The first values of a list that stands in reverse.
use Rattle.std.proofs.Common.{◌≡◌, ℕ, ◌+◌, ◌-◌, ◌≤◌, List, ◌++◌, length, take, drop, reverse, sym, ap, ◌∙◌, arith}
use Rattle.std.proofs.Math.Seq.{take-add, drop-append_seam, take-append_seam}
use Rattle.std.proofs.lemmas.List.{reverse-append, reverse-reverse, length-reverse, length-take-le, length-drop}

split : {A : Type 0} (xs : List A) (d n : ℕ) → n ≤ d → take d xs ≡ take (d - n) xs ++ take n (drop (d - n) xs)
split xs d n h = let e : (d - n) + n ≡ d = omega arith in ap (λ k. take k xs) (sym e) ∙ take-add (d - n) n xs

turned : {A : Type 0} (xs : List A) (d n : ℕ) → n ≤ d → reverse (take d xs) ≡ reverse (take n (drop (d - n) xs)) ++ reverse (take (d - n) xs)
turned xs d n h = ap reverse (split xs d n h) ∙ reverse-append (take (d - n) xs) (take n (drop (d - n) xs))

long : {A : Type 0} (xs : List A) (d n : ℕ) → n ≤ d → d ≤ length xs → length (reverse (take n (drop (d - n) xs))) ≡ n
long xs d n h k =
    let l = length-drop (d - n) xs in
    length-reverse (take n (drop (d - n) xs)) ∙ length-take-le n (drop (d - n) xs) (omega (arith, l))

pub drop_reversed : {A : Type 0} (xs : List A) (d n : ℕ) → n ≤ d → d ≤ length xs → drop n (reverse (take d xs)) ≡ reverse (take (d - n) xs)
drop_reversed xs d n h k =
    ap (λ m. drop m (reverse (take d xs))) (sym (long xs d n h k))
    ∙ ap (drop (length (reverse (take n (drop (d - n) xs))))) (turned xs d n h)
    ∙ drop-append_seam (reverse (take n (drop (d - n) xs))) (reverse (take (d - n) xs))

pub take_reversed : {A : Type 0} (xs : List A) (d n : ℕ) → n ≤ d → d ≤ length xs → reverse (take n (reverse (take d xs))) ≡ take n (drop (d - n) xs)
take_reversed xs d n h k =
    ap reverse (ap (λ m. take m (reverse (take d xs))) (sym (long xs d n h k))
    ∙ ap (take (length (reverse (take n (drop (d - n) xs))))) (turned xs d n h)
    ∙ take-append_seam (reverse (take n (drop (d - n) xs))) (reverse (take (d - n) xs)))
    ∙ reverse-reverse (take n (drop (d - n) xs))
