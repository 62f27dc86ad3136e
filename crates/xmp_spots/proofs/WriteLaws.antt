-- How often a number stands in a list, from the numbers that stand in it, and those that stand in it twice.
use Rattle.std.proofs.Common.{◌≡◌, ℕ, zero, suc, ◌+◌, ◌<◌, ◌≤◌, arith, Bool, true, false, not, ◌&&◌, ◌||◌, List, [], ◌∷◌, ◌++◌, refl, sym, ap, ◌∙◌, subst, length, take, drop, map, get_or, if◌then◌else◌, add-one}
use Rattle.std.specs.Prelude.{◌==◌, nat_le, filter}
use Rattle.std.proofs.lemmas.Bool.Decides.{nat_tests}
use Rattle.std.proofs.lemmas.List.{take_more, take_all, append_assoc}
use Rattle.std.proofs.Math.Seq.{drop-cons}
use Rattle.xmp_prog.specs.Numbers.{is_in}
use Rattle.xmp_spots.specs.declared.writes.Writes.{Writes}
use Rattle.xmp_spots.specs.Writes.{times_in, CountsIn}

suc_left : (a b : ℕ) → suc a + b ≡ suc (a + b)
suc_left a b = omega arith

times_more : (x s n : ℕ) (xs : List ℕ) (b : Bool) → times_in (xs ++ s ∷ []) n ≡ times_in xs n + (if s == n then 1 else 0) →
    length (if b then x ∷ filter (λ m. m == n) (xs ++ s ∷ []) else filter (λ m. m == n) (xs ++ s ∷ []))
    ≡ length (if b then x ∷ filter (λ m. m == n) xs else filter (λ m. m == n) xs) + (if s == n then 1 else 0)
times_more x s n xs true e = ap suc e ∙ sym (suc_left (times_in xs n) (if s == n then 1 else 0))
times_more x s n xs false e = e

times_push : (xs : List ℕ) (s n : ℕ) → times_in (xs ++ s ∷ []) n ≡ times_in xs n + (if s == n then 1 else 0)
times_push [] s n = one (s == n)
  where
    one : (b : Bool) → length (if b then s ∷ [] else []) ≡ 0 + (if b then 1 else 0)
    one true = refl
    one false = refl
times_push (x ∷ xs) s n = times_more x s n xs (x == n) (times_push xs s n)

some_more : (b : Bool) (c : ℕ) → (b || nat_le 1 c) ≡ nat_le 1 (c + (if b then 1 else 0))
some_more true c = grind (arith, nat_tests)
some_more false c = grind (arith, nat_tests)

twice_more : (b : Bool) (c : ℕ) → ((b && nat_le 1 c) || nat_le 2 c) ≡ nat_le 2 (c + (if b then 1 else 0))
twice_more true c = grind (arith, nat_tests)
twice_more false c = grind (arith, nat_tests)

pub counts_more : (slots : List ℕ) (k d : ℕ) (old new : Writes) → k < length slots → CountsIn (take k slots) old →
    ((n : ℕ) → is_in new.some n ≡ ((get_or slots k d == n) || is_in old.some n)) →
    ((n : ℕ) → is_in new.more n ≡ (((get_or slots k d == n) && is_in old.some n) || is_in old.more n)) →
    CountsIn (take (k + 1) slots) new
counts_more slots k d old new l h some more =
    let s = get_or slots k d in
    subst (λ xs. CountsIn xs new) (sym (take_more slots k d l)) (record {
      some = λ n. some n ∙ (ap (λ b. (s == n) || b) (h.some n)
          ∙ (some_more (s == n) (times_in (take k slots) n) ∙ ap (nat_le 1) (sym (times_push (take k slots) s n))));
      more = λ n. more n ∙ ((λ i. ((s == n) && h.some n i) || h.more n i)
          ∙ (twice_more (s == n) (times_in (take k slots) n) ∙ ap (nat_le 2) (sym (times_push (take k slots) s n))));
    })

pub counts_all : (slots : List ℕ) (k : ℕ) (w : Writes) → length slots ≤ k → CountsIn (take k slots) w → CountsIn slots w
counts_all slots k w l h = subst (λ xs. CountsIn xs w) (take_all k slots l) h

once : (c : ℕ) → (nat_le 1 c && not (nat_le 2 c)) ≡ (c == 1)
once c = grind (arith, nat_tests)

pub once_is : (slots : List ℕ) (w : Writes) (n : ℕ) → CountsIn slots w → (is_in w.some n && not (is_in w.more n)) ≡ (times_in slots n == 1)
once_is slots w n h = (λ i. h.some n i && not (h.more n i)) ∙ once (times_in slots n)

-- one more row without values
pub rows_more : {A B : Type 0} (rows : List (List A)) (xs : List B) (k : ℕ) (d : B) → k < length xs →
    rows ++ map (λ x. []) (drop k xs) ≡ (rows ++ [] ∷ []) ++ map (λ x. []) (drop (k + 1) xs)
rows_more rows xs k d h =
    ap (λ l. rows ++ map (λ x. []) l) (drop-cons xs k d h)
    ∙ ap (λ j. rows ++ [] ∷ map (λ x. []) (drop j xs)) (sym (add-one k))
    ∙ sym (append_assoc rows ([] ∷ []) (map (λ x. []) (drop (k + 1) xs)))
