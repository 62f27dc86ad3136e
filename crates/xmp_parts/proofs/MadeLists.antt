-- Lists of which each item is made from the one in its place.
use Rattle.std.proofs.Common.{◌≡◌, ◌≤◌, ◌<◌, ◌∙◌, sym, ap, refl, subst, ◌++◌, ◌∷◌, [], ◌+◌, ℕ, zero, suc, ℤ, List, Some, arith, length, get_or, map, take}
use Rattle.std.specs.Prelude.{slice_get, slice_set}
use Rattle.std.proofs.lemmas.Option.{same_Some, none-some}
use Rattle.std.proofs.lemmas.List.{length-map, length-take, map-append, take_more, take_all}
use Rattle.xmp_parts.specs.Parts.{EachMade, padded}

made_push : {A B : Type 0} (Is : ℕ → A → B → Type 0) (k : ℕ) (xs : List A) (ys : List B) (x : A) (y : B) → EachMade Is k xs ys → Is (k + length xs) x y →
    EachMade Is k (xs ++ x ∷ []) (ys ++ y ∷ [])
made_push Is k [] [] x y h i =
    let e : k + 0 ≡ k = omega arith in
    (subst (λ n. Is n x y) e i, tt)
made_push Is k [] (b ∷ bs) x y h i = absurd h
made_push Is k (a ∷ more) [] x y h i = absurd h
made_push Is k (a ∷ more) (b ∷ bs) x y h i =
    let e : k + length (a ∷ more) ≡ k + 1 + length more = omega arith in
    (h.0, made_push Is (k + 1) more bs x y h.1 (subst (λ n. Is n x y) e i))

-- One more item.
pub made_more : {A B : Type 0} (Is : ℕ → A → B → Type 0) (xs : List A) (ys : List B) (i : ℕ) (x : A) (y : B) → i < length xs → x ≡ get_or xs i x → EachMade Is 0 (take i xs) ys → Is i x y →
    EachMade Is 0 (take (i + 1) xs) (ys ++ y ∷ [])
made_more Is xs ys i x y lt is h m =
    let n : length (take i xs) ≡ i = let l = length-take i xs in omega arith in
    let at : i ≡ 0 + length (take i xs) = omega arith in
    subst (λ l. EachMade Is 0 l (ys ++ y ∷ [])) (sym (take_more xs i x lt ∙ ap (λ z. take i xs ++ z ∷ []) (sym is)))
    (made_push Is 0 (take i xs) ys x y h (subst (λ j. Is j x y) at m))

-- All items.
pub made_all : {A B : Type 0} (Is : ℕ → A → B → Type 0) (xs : List A) (ys : List B) (i : ℕ) → length xs ≤ i → EachMade Is 0 (take i xs) ys → EachMade Is 0 xs ys
made_all Is xs ys i le h = subst (λ l. EachMade Is 0 l ys) (take_all i xs le) h

-- What an item was made into.
made_at : {A B : Type 0} (Is : ℕ → A → B → Type 0) (k : ℕ) (xs : List A) (ys : List B) (i : ℕ) (x : A) → EachMade Is k xs ys → slice_get xs i ≡ Some x →
    (y : B) × (slice_get ys i ≡ Some y) × Is (k + i) x y
made_at Is k [] ys i x h e = absurd (none-some x e)
made_at Is k (a ∷ more) [] i x h e = absurd h
made_at Is k (a ∷ more) (b ∷ bs) zero x h e =
    let j : k ≡ k + 0 = omega arith in
    (b, refl, subst (λ n. Is n x b) j (subst (λ z. Is k z b) (same_Some a x e) h.0))
made_at Is k (a ∷ more) (b ∷ bs) (suc i) x h e =
    let j : k + 1 + i ≡ k + suc i = omega arith in
    let r = made_at Is (k + 1) more bs i x h.1 e in
    (r.0, r.1, subst (λ n. Is n x r.0) j r.2)

pub made_here : {A B : Type 0} (Is : ℕ → A → B → Type 0) (xs : List A) (ys : List B) (i : ℕ) (x : A) → EachMade Is 0 xs ys → slice_get xs i ≡ Some x →
    (y : B) × (slice_get ys i ≡ Some y) × Is i x y
made_here Is xs ys i x h e =
    let j : 0 + i ≡ i = omega arith in
    let r = made_at Is 0 xs ys i x h e in
    (r.0, r.1, subst (λ n. Is n x r.0) j r.2)

-- ---- a padded list, written from the front on

pub set_padded : (k : ℕ) (xs : List ℕ) (i v : ℕ) → i ≡ length xs → i < k → slice_set (padded k xs) i v ≡ padded k (xs ++ v ∷ [])
set_padded zero xs i v e h = absurd (omega arith)
set_padded (suc k) [] zero v e h = refl
set_padded (suc k) [] (suc i) v e h = absurd (omega arith)
set_padded (suc k) (x ∷ xs) zero v e h = absurd (omega arith)
set_padded (suc k) (x ∷ xs) (suc i) v e h = ap (λ l. x ∷ l) (set_padded k xs i v (omega arith) (omega arith))

-- One more number of a list that is made into numbers.
pub set_made : (k : ℕ) (f : ℤ → ℕ) (xs : List ℤ) (vs : List ℕ) (i v : ℕ) (d : ℤ) → i < length xs → length xs ≤ k → vs ≡ padded k (map f (take i xs)) → v ≡ f (get_or xs i d) →
    slice_set vs i v ≡ padded k (map f (take (i + 1) xs))
set_made k f xs vs i v d lt most is e =
    let n : i ≡ length (map f (take i xs)) = let l = length-take i xs in let m = length-map (take i xs) f in omega arith in
    let one : map f (take i xs) ++ v ∷ [] ≡ map f (take (i + 1) xs) =
    ap (λ z. map f (take i xs) ++ z ∷ []) e ∙ (sym (map-append f (take i xs) (get_or xs i d ∷ [])) ∙ ap (map f) (sym (take_more xs i d lt))) in
    ap (λ l. slice_set l i v) is ∙ (set_padded k (map f (take i xs)) i v n (omega arith) ∙ ap (padded k) one)
