-- Lists gone through from the front.
use Rattle.std.proofs.Common.{◌≡◌, ◌↔◌, ◌<◌, ◌≤◌, ◌+◌, ◌-◌, ℕ, zero, suc, List, [], ◌∷◌, length, drop, get_or, refl, sym, ◌∙◌, ap, subst, arith, add-one, drop-cons, Some, None, slice_get}
use Rattle.std.specs.List.{AllByRecursion, last_or}
use Rattle.std.proofs.lemmas.List.{drop_all}
use Rattle.std.proofs.lemmas.Option.{same_Some, none-some, slice_get-get_or}

pub unrolled : {A : Type 0} (xs : List A) (k : ℕ) (d : A) → k < length xs → drop k xs ≡ get_or xs k d ∷ drop (k + 1) xs
unrolled xs k d h = rw (add-one, drop-cons xs k d)

-- the item at a place
pub at_place : {A : Type 0} (xs : List A) (k : ℕ) (d x : A) → k < length xs → slice_get xs k ≡ Some x → get_or xs k d ≡ x
at_place xs k d x h e = same_Some (get_or xs k d) x (sym (slice_get-get_or xs k d h) ∙ e)

pub at_same : {A : Type 0} (xs ys : List A) (k q : ℕ) (d x : A) → xs ≡ ys → k ≡ q → k < length xs → slice_get ys q ≡ Some x → get_or xs k d ≡ x
at_same xs ys k q d x l p h e = at_place xs k d x h (ap (λ zs. slice_get zs k) l ∙ ap (slice_get ys) p ∙ e)

-- all hold where the first and the rest do
pub all_from : {A : Type 0} (P : A → Type 0) (xs : List A) (k : ℕ) (d : A) → k < length xs → AllByRecursion P (drop k xs) → P (get_or xs k d) × AllByRecursion P (drop (k + 1) xs)
all_from P xs k d h a = subst (AllByRecursion P) (unrolled xs k d h) a

pub all_with : {A : Type 0} (P : A → Type 0) (xs : List A) (k : ℕ) (d : A) → k < length xs → P (get_or xs k d) → AllByRecursion P (drop (k + 1) xs) → AllByRecursion P (drop k xs)
all_with P xs k d h p a = subst (AllByRecursion P) (sym (unrolled xs k d h)) (p, a)

pub all_go_on : {A : Type 0} (P : A → Type 0) (xs : List A) (k : ℕ) (d : A) → k < length xs → (AllByRecursion P xs ↔ AllByRecursion P (drop k xs)) → P (get_or xs k d) → (AllByRecursion P xs ↔ AllByRecursion P (drop (k + 1) xs))
all_go_on P xs k d h i p = (λ a. (all_from P xs k d h (i.0 a)).1, λ a. i.1 (all_with P xs k d h p a))

pub all_done : {A : Type 0} (P : A → Type 0) (xs : List A) (k : ℕ) → length xs ≤ k → (AllByRecursion P xs ↔ AllByRecursion P (drop k xs)) → AllByRecursion P xs
all_done P xs k h i = i.1 (subst (AllByRecursion P) (sym (drop_all k xs h)) tt)

-- one of all
pub all_at : {A : Type 0} (P : A → Type 0) (xs : List A) (k : ℕ) (x : A) → AllByRecursion P xs → slice_get xs k ≡ Some x → P x
all_at P [] k x a e = absurd (none-some x e)
all_at P (y ∷ ys) zero x a e = subst P (same_Some y x e) a.0
all_at P (y ∷ ys) (suc k) x a e = all_at P ys k x a.1 e

-- the last item
last_get : {A : Type 0} (x : A) (xs : List A) → last_or (Some x) xs ≡ slice_get (x ∷ xs) (length xs)
last_get x [] = refl
last_get x (y ∷ ys) = last_get y ys

pub last_is : {A : Type 0} (xs : List A) → last_or None xs ≡ slice_get xs (length xs - 1)
last_is [] = refl
last_is (x ∷ xs) = last_get x xs ∙ ap (λ n. slice_get (x ∷ xs) n) (omega arith)
