-- Accesses of two sets: which set is asked doesn't matter.
use Rattle.std.proofs.Common.{◌≡◌, ℕ, ◌==◌, ◌+◌, ◌<◌, ◌≤◌, Bool, true, false, ◌&&◌, ◌||◌, List, [], ◌∷◌, ◌++◌, ◌⊎◌, inl, inr, ℤ, Option, Some, None, refl, sym, ap, ◌∙◌, subst, ⊎_elim, ◌↔◌, length, take, get_or, reverse, append_assoc, not}
use Rattle.std.specs.List.{list_any}
use Rattle.std.specs.List.Sorted.{IsPermutation}
use Rattle.std.specs.Ordering.{int_eq}
use Rattle.std.proofs.lemmas.List.{take_more, take_all}
use Rattle.std.proofs.lemmas.List.Sorted.{IsPermutation-reverse, IsPermutation-append_comm, IsPermutation-append_right, IsPermutation-trans}
use Rattle.std.proofs.lemmas.Cmp.{int_eq_equiv}
use Rattle.xmp_base.specs.declared.refusal.Refusal.{Refusal}
use Rattle.xmp_base.specs.First.{IsFirst, first_of}
use Rattle.xmp_base.proofs.FirstLaws.{first_or, first_same}
use Rattle.xmp_spots.specs.declared.touches.By.{By}
use Rattle.xmp_spots.specs.declared.touches.By.TheVariants.{One, Several}
use Rattle.xmp_spots.specs.declared.touches.Spot.{Spot}
use Rattle.xmp_spots.specs.declared.touches.Touch.{Touch}
use Rattle.xmp_spots.specs.Clashes.{by_two, may_agree, may_be_one, spots_clash, clash}
use Rattle.xmp_spots.specs.Races.{refused, ClashesWith, ClashBetween}
use Rattle.xmp_spots.proofs.AskingLaws.{nat_eq_swap}

-- ---- a clash is one of both

by_swap : (a b : By) → by_two a b ≡ by_two b a
by_swap (One x) (One y) = ap not (nat_eq_swap x y)
by_swap (One x) Several = refl
by_swap Several (One y) = refl
by_swap Several Several = refl

agree_swap : (a b : Option ℤ) → may_agree a b ≡ may_agree b a
agree_swap None None = refl
agree_swap None (Some y) = refl
agree_swap (Some x) None = refl
agree_swap (Some x) (Some y) = int_eq_equiv.symm x y

spots_swap : (s t : Spot) → spots_clash s t ≡ spots_clash t s
spots_swap s t = λ i.
    by_swap s.by t.by i && (int_eq_equiv.symm s.on t.on i
    && (agree_swap s.subscripts.first t.subscripts.first i
    && (agree_swap s.subscripts.second t.subscripts.second i && agree_swap s.subscripts.third t.subscripts.third i)))

or_swap : (a b : Bool) → (a || b) ≡ (b || a)
or_swap true true = refl
or_swap true false = refl
or_swap false true = refl
or_swap false false = refl

none_of : (ss : List Spot) → list_any (λ s. false) ss ≡ false
none_of [] = refl
none_of (s ∷ ss) = none_of ss

next_of : (f g : Spot → Bool) (ss : List Spot) → list_any (λ s. f s || g s) ss ≡ (list_any f ss || list_any g ss)
next_of f g [] = refl
next_of f g (s ∷ ss) = ap (λ l. (f s || g s) || l) (next_of f g ss) ∙ four (f s) (g s) (list_any f ss) (list_any g ss)
  where
    four : (a b c d : Bool) → ((a || b) || (c || d)) ≡ ((a || c) || (b || d))
    four true b c d = refl
    four false true true d = refl
    four false true false d = refl
    four false false true d = refl
    four false false false d = refl

pub any_swap : (ss ts : List Spot) → list_any (λ s. list_any (spots_clash s) ts) ss ≡ list_any (λ t. list_any (spots_clash t) ss) ts
any_swap [] ts = sym (none_of ts)
any_swap (s ∷ ss) ts =
    (λ i. list_any (λ t. spots_swap s t i) ts || any_swap ss ts i)
    ∙ sym (next_of (λ t. spots_clash t s) (λ t. list_any (spots_clash t) ss) ts)

pub clash_swap : (a b : Touch) → clash a b ≡ clash b a
clash_swap a b = λ i. nat_eq_swap a.array b.array i && (or_swap a.writes b.writes i && any_swap a.spots b.spots i)

-- ---- sets

one_between : (x : Touch) (xs ys : List Touch) (r : Refusal) → ClashesWith x ys r → ClashBetween ys (x ∷ xs) r
one_between x xs [] r h = absurd h
one_between x xs (y ∷ ys) r h =
    ⊎_elim
    (λ k. inl (inl (clash_swap y x ∙ k.0, ⊎_elim inr inl k.1)))
    (λ k. inr (one_between x xs ys r k))
    h

more_between : (x : Touch) (xs ys : List Touch) (r : Refusal) → ClashBetween ys xs r → ClashBetween ys (x ∷ xs) r
more_between x xs [] r h = absurd h
more_between x xs (y ∷ ys) r h = ⊎_elim (λ k. inl (inr k)) (λ k. inr (more_between x xs ys r k)) h

between_swap : (xs ys : List Touch) (r : Refusal) → ClashBetween xs ys r → ClashBetween ys xs r
between_swap [] ys r h = absurd h
between_swap (x ∷ xs) ys r h =
    ⊎_elim (λ k. one_between x xs ys r k) (λ k. more_between x xs ys r (between_swap xs ys r k)) h

pub first_swap : (xs ys : List Touch) (found : Option Refusal) → IsFirst (ClashBetween xs ys) found → IsFirst (ClashBetween ys xs) found
first_swap xs ys found h = first_same (ClashBetween xs ys) (ClashBetween ys xs) (λ r. (between_swap xs ys r, between_swap ys xs r)) found h

between_forth : (xs : List Touch) (x : Touch) (ys : List Touch) (r : Refusal) → ClashBetween xs ys r ⊎ ClashesWith x ys r → ClashBetween (xs ++ x ∷ []) ys r
between_forth [] x ys r h = ⊎_elim (λ k. absurd k) inl h
between_forth (z ∷ xs) x ys r h =
    ⊎_elim (λ k. ⊎_elim inl (λ l. inr (between_forth xs x ys r (inl l))) k) (λ k. inr (between_forth xs x ys r (inr k))) h

between_back : (xs : List Touch) (x : Touch) (ys : List Touch) (r : Refusal) → ClashBetween (xs ++ x ∷ []) ys r → ClashBetween xs ys r ⊎ ClashesWith x ys r
between_back [] x ys r h = ⊎_elim inr (λ k. absurd k) h
between_back (z ∷ xs) x ys r h =
    ⊎_elim (λ k. inl (inl k)) (λ k. ⊎_elim (λ l. inl (inr l)) inr (between_back xs x ys r k)) h

pub first_next : (touches : List Touch) (n : ℕ) (d : Touch) (ys : List Touch) (x y z : Option Refusal) → n < length touches →
    IsFirst (ClashBetween (take n touches) ys) x → IsFirst (ClashesWith (get_or touches n d) ys) y → z ≡ first_of x y →
    IsFirst (ClashBetween (take (n + 1) touches) ys) z
first_next touches n d ys x y z l h k e =
    let last = get_or touches n d in
    subst (λ ts. IsFirst (ClashBetween ts ys) z) (sym (take_more touches n d l))
    (subst (IsFirst (ClashBetween (take n touches ++ last ∷ []) ys)) (sym e)
    (first_same (λ r. ClashBetween (take n touches) ys r ⊎ ClashesWith last ys r) (ClashBetween (take n touches ++ last ∷ []) ys)
    (λ r. (between_forth (take n touches) last ys r, between_back (take n touches) last ys r)) (first_of x y)
    (first_or (ClashBetween (take n touches) ys) (ClashesWith last ys) x y h k)))

pub first_all : (touches : List Touch) (n : ℕ) (ys : List Touch) (x : Option Refusal) → length touches ≤ n →
    IsFirst (ClashBetween (take n touches) ys) x → IsFirst (ClashBetween touches ys) x
first_all touches n ys x l h = subst (λ ts. IsFirst (ClashBetween ts ys) x) (take_all n touches l) h

-- ---- both sets in one

pub absorbed : (xs ys zs : List Touch) → zs ≡ xs ++ reverse ys → IsPermutation (xs ++ ys) zs
absorbed xs ys zs e = subst (IsPermutation (xs ++ ys)) (sym e) (IsPermutation-append_right xs ys (reverse ys) (IsPermutation-reverse ys))

pub absorbed_swapped : (xs ys zs : List Touch) → zs ≡ ys ++ reverse xs → IsPermutation (xs ++ ys) zs
absorbed_swapped xs ys zs e =
    IsPermutation-trans (xs ++ ys) (ys ++ xs) zs (IsPermutation-append_comm xs ys) (absorbed ys xs zs e)
