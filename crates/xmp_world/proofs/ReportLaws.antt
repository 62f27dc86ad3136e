-- Sums and texts over ranges of nodes.
use Rattle.std.proofs.Common.{◌≡◌, ◌<◌, ◌≤◌, ◌+◌, ◌^◌, ◌++◌, ℕ, zero, suc, List, [], ◌∷◌, map, length, drop, get_or, Some, refl, sym, ap, ◌∙◌, arith, append-nil}
use Rattle.std.specs.Prelude.{slice_get}
use Rattle.std.specs.List.{flat_map, range_with_len, sum_by}
use Rattle.std.proofs.lemmas.Grind.{flat_map-append}
use Rattle.std.proofs.lemmas.Option.{slice_get_read, none-some, same_Some}
use Rattle.std.proofs.lemmas.List.Concat.{flat_map-cons}
use Rattle.std.proofs.lemmas.List.FromFn.{sum_by-map-range_with_len_more}
use Rattle.std.proofs.lemmas.List.Sums.{sum_by-cons}
use Rattle.xmp_move.proofs.LegLaws.{range_more}
use Rattle.xmp_nodes.specs.Nodes.{bounded}

pub sum_more : (f : ℕ → ℕ) (k : ℕ) → sum_by f (range_with_len 0 (k + 1)) ≡ sum_by f (range_with_len 0 k) + f k
sum_more f k =
    let z : 0 + k ≡ k = omega arith in
    ap (sum_by f) (sym (map-same (range_with_len 0 (k + 1))))
    ∙ (sum_by-map-range_with_len_more f (λ n. n) 0 k k z ∙ ap (λ ns. sum_by f ns + f k) (map-same (range_with_len 0 k)))
  where
    map-same : (ns : List ℕ) → map (λ n. n) ns ≡ ns
    map-same [] = refl
    map-same (n ∷ ns) = ap (λ ms. n ∷ ms) (map-same ns)

pub flat_more : (f : ℕ → List ℕ) (k : ℕ) → flat_map f (range_with_len 0 (k + 1)) ≡ flat_map f (range_with_len 0 k) ++ f k
flat_more f k =
    let n : k + 1 ≡ suc k = omega arith in
    let z : 0 + k ≡ k = omega arith in
    ap (λ i. flat_map f (range_with_len 0 i)) n
    ∙ (ap (flat_map f) (range_more 0 k)
    ∙ (flat_map-append f (range_with_len 0 k) ((0 + k) ∷ [])
    ∙ (ap (λ ns. flat_map f (range_with_len 0 k) ++ ns) (flat_map-cons f (0 + k) [] ∙ append-nil (f (0 + k)))
    ∙ ap (λ i. flat_map f (range_with_len 0 k) ++ f i) z)))

pub bounded_more : (s x : ℕ) → bounded (bounded s + x) ≡ bounded (s + x)
bounded_more s x = omega arith

pub bounded_small : (n : ℕ) → n < 2 ^ 64 → n ≡ bounded n
bounded_small n l = omega (arith, l)

-- sums of counts that go no further than a bound
pub sums_bounded : (f g : ℕ → ℕ) (a n : ℕ) → ((k : ℕ) → a ≤ k → k < a + n → f k ≡ bounded (g k)) → bounded (sum_by f (range_with_len a n)) ≡ bounded (sum_by g (range_with_len a n))
sums_bounded f g a zero h = refl
sums_bounded f g a (suc n) h =
    let here = h a (omega arith) (omega arith) in
    let rest = sums_bounded f g (a + 1) n (λ k l m. h k (omega (arith, l)) (omega (arith, m))) in
    let x = sum_by-cons f a (range_with_len (a + 1) n) in
    let y = sum_by-cons g a (range_with_len (a + 1) n) in
    omega (arith, here, rest, x, y)

-- lists of numbers in a range, each with what stands for it
pub flats_same : (f g : ℕ → List ℕ) (a n : ℕ) → ((k : ℕ) → a ≤ k → k < a + n → f k ≡ g k) → flat_map f (range_with_len a n) ≡ flat_map g (range_with_len a n)
flats_same f g a zero h = refl
flats_same f g a (suc n) h =
    flat_map-cons f a (range_with_len (a + 1) n)
    ∙ ((λ i. h a (omega arith) (omega arith) i ++ flats_same f g (a + 1) n (λ k l m. h k (omega (arith, l)) (omega (arith, m))) i)
    ∙ sym (flat_map-cons g a (range_with_len (a + 1) n)))

-- an item, and those behind it
pub drop_at : {A : Type 0} (xs : List A) (k : ℕ) (x : A) → slice_get xs k ≡ Some x → drop k xs ≡ x ∷ drop (k + 1) xs
drop_at [] k x e = absurd (none-some x e)
drop_at (y ∷ ys) zero x e = ap (λ z. z ∷ ys) (same_Some y x e)
drop_at (y ∷ ys) (suc k) x e = let n : suc (k + 1) ≡ suc k + 1 = omega arith in drop_at ys k x e ∙ ap (λ i. x ∷ drop i (y ∷ ys)) n

-- an item that was read
pub read_there : {A : Type 0} (xs ys : List A) (k : ℕ) (x : A) → xs ≡ ys → k < length xs → x ≡ get_or xs k x → slice_get ys k ≡ Some x
read_there xs ys k x same l e = ap (λ zs. slice_get zs k) (sym same) ∙ slice_get_read xs (length xs) k x refl l e
