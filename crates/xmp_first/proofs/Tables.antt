-- The lists f 0, f 1, .. of a function.
use Rattle.std.proofs.Common.{◌≡◌, ℕ, zero, suc, ◌+◌, ◌<◌, List, [], ◌∷◌, ◌++◌, length, refl, ap, ◌∙◌, arith, inl, inr, Some, length-append}
use Rattle.std.specs.Prelude.{slice_get}
use Rattle.std.proofs.lemmas.Bool.{cases_lt}
use Rattle.xmp_first.specs.Nodes.{tabulate}

pub tabulate-more : {A : Type 0} (f : ℕ → A) (n : ℕ) → tabulate f (n + 1) ≡ tabulate f n ++ f n ∷ []
tabulate-more {A} f n = let e : n + 1 ≡ suc n = omega arith in ap (λ (k : ℕ). tabulate f k) e

pub length-tabulate : {A : Type 0} (f : ℕ → A) (n : ℕ) → length (tabulate f n) ≡ n
length-tabulate {A} f zero = refl
length-tabulate {A} f (suc n) = let h = length-tabulate f n in omega (arith, length-append {A = A} (tabulate f n) (f n ∷ []))

get_front : {A : Type 0} (xs ys : List A) (k : ℕ) → k < length xs → slice_get (xs ++ ys) k ≡ slice_get xs k
get_front {A} [] ys k h = absurd (omega arith)
get_front {A} (x ∷ xs) ys zero h = refl
get_front {A} (x ∷ xs) ys (suc k) h = get_front xs ys k (omega arith)

get_last : {A : Type 0} (xs : List A) (y : A) (k : ℕ) → k ≡ length xs → slice_get (xs ++ y ∷ []) k ≡ Some y
get_last {A} [] y zero h = refl
get_last {A} [] y (suc k) h = absurd (omega arith)
get_last {A} (x ∷ xs) y zero h = absurd (omega arith)
get_last {A} (x ∷ xs) y (suc k) h = get_last xs y k (omega arith)

pub slice_get-tabulate : {A : Type 0} (f : ℕ → A) (n k : ℕ) → k < n → slice_get (tabulate f n) k ≡ Some (f k)
slice_get-tabulate {A} f zero k h = absurd (omega arith)
slice_get-tabulate {A} f (suc n) k h =
    let l = length-tabulate f n in
    elim (cases_lt k n) [
      | inl lt ↦ get_front (tabulate f n) (f n ∷ []) k (omega arith) ∙ slice_get-tabulate f n k lt
      | inr ge ↦ let e : n ≡ k = omega arith in get_last (tabulate f n) (f n) k (omega arith) ∙ ap (λ (m : ℕ). Some (f m)) e
    ]
