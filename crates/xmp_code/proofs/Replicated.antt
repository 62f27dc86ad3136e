-- A list each of whose items is the same.
use Rattle.std.proofs.Common.{◌≡◌, ◌<◌, ℕ, zero, suc, List, [], ◌∷◌, length, replicate, Some, slice_get, refl, ap, sym, ◌∙◌, arith}

some_same : {A : Type 0} (x y : A) → Some x ≡ Some y → x ≡ y
some_same x y e = cc

joined : {A : Type 0} (x y : A) (xs ys : List A) → x ≡ y → xs ≡ ys → x ∷ xs ≡ y ∷ ys
joined x y xs ys e f = cc

pub replicated : {A : Type 0} (xs : List A) (x : A) → ((n : ℕ) → n < length xs → slice_get xs n ≡ Some x) → xs ≡ replicate (length xs) x
replicated [] x h = refl
replicated (y ∷ ys) x h = joined y x ys (replicate (length ys) x) (some_same y x (h 0 (omega arith))) (replicated ys x (λ n l. h (suc n) (omega arith)))
