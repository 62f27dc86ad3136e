-- Parts of lists.
use Rattle.std.proofs.Common.{◌≡◌, ◌<◌, ℕ, zero, suc, ℤ, pos, List, [], ◌∷◌, length, map, take, drop, refl, ap, arith}
use Rattle.std.specs.Prelude.{slice_get, unwrap_or, Option, Some, None, IfSome}

pub take_mapped : {A B : Type 0} (f : A → B) (n : ℕ) (xs : List A) → map f (take n xs) ≡ take n (map f xs)
take_mapped f zero xs = refl
take_mapped f (suc n) [] = refl
take_mapped f (suc n) (x ∷ xs) = ap (λ r. f x ∷ r) (take_mapped f n xs)

-- one word by itself
pub one_word : (xs : List ℤ) (k : ℕ) → k < length xs → take 1 (drop k xs) ≡ unwrap_or (slice_get xs k) (pos 0) ∷ []
one_word [] k h = absurd (omega (arith, h))
one_word (x ∷ xs) zero h = refl
one_word (x ∷ xs) (suc k) h = one_word xs k (omega (arith, h))

-- what holds of a value that is there
pub some_by : {A : Type 0} {P Q : A → Type 0} (o : Option A) → ((a : A) → P a → Q a) → IfSome o P → IfSome o Q
some_by (Some a) f h = f a h
some_by None f h = h
