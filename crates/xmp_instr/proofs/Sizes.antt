-- How many cells a box has, extent by extent.
use Rattle.std.proofs.Common.{◌≡◌, ◌<◌, ◌≤◌, ◌+◌, ◌*◌, ◌&&◌, ℕ, true, false, Bool, List, [], ◌∷◌, length, drop, get_or, refl, sym, ◌∙◌, ap, arith}
use Rattle.std.proofs.Math.Nat.{mul-le-mul}
use Rattle.std.specs.Prelude.{nat_le}
use Rattle.std.specs.List.{list_all}
use Rattle.std.proofs.lemmas.List.{drop_all}
use Rattle.std.proofs.lemmas.Bool.{leb-true, false≢true}
use Rattle.xmp_base.specs.Limits.{size_limit}
use Rattle.xmp_dist.specs.Valid.{is_extent}
use Rattle.xmp_map.specs.RowMajor.{product}
use Rattle.xmp_instr.proofs.Lists.{unrolled}

pub left_true : (a b : Bool) → (a && b) ≡ true → a ≡ true
left_true true b h = refl
left_true false b h = absurd (false≢true h)

pub right_true : (a b : Bool) → (a && b) ≡ true → b ≡ true
right_true true b h = h
right_true false b h = absurd (false≢true h)

extent_some : (n : ℕ) → is_extent n ≡ true → 1 ≤ n
extent_some n h = leb-true 1 n (left_true (nat_le 1 n) (nat_le n size_limit) h)

product_some : (xs : List ℕ) → list_all is_extent xs ≡ true → 1 ≤ product xs
unfolding product
product_some [] h = omega arith
product_some (x ∷ xs) h =
    mul-le-mul (extent_some x (left_true (is_extent x) _ h)) (product_some xs (right_true (is_extent x) _ h))

product_first : (x : ℕ) (xs : List ℕ) → product (x ∷ xs) ≡ x * product xs
unfolding product
product_first x xs = refl

-- the product of the rest, once one more extent is taken
pub product_on : (xs : List ℕ) (k : ℕ) → k < length xs → product (drop k xs) ≡ get_or xs k 0 * product (drop (k + 1) xs)
product_on xs k h = ap product (unrolled xs k 0 h) ∙ product_first (get_or xs k 0) (drop (k + 1) xs)

pub extents_on : (xs : List ℕ) (k : ℕ) → k < length xs → list_all is_extent (drop k xs) ≡ true → list_all is_extent (drop (k + 1) xs) ≡ true
extents_on xs k h e = right_true (is_extent (get_or xs k 0)) _ (ap (list_all is_extent) (sym (unrolled xs k 0 h)) ∙ e)

pub product_end : (xs : List ℕ) (k : ℕ) → length xs ≤ k → product (drop k xs) ≡ 1
unfolding product
product_end xs k h = ap product (drop_all k xs h)

pub grown : (whole count x rest : ℕ) → whole ≡ count * (x * rest) → whole ≡ count * x * rest
grown whole count x rest e = omega (arith, e)

self_le : (n : ℕ) → n ≤ n
self_le n = omega arith

pub too_many : (xs : List ℕ) (k count whole limit : ℕ) → k < length xs → list_all is_extent (drop k xs) ≡ true
    → whole ≡ count * product (drop k xs) → limit < count * get_or xs k 0 → limit < whole
too_many xs k count whole limit h e is more =
    let rest = product (drop (k + 1) xs) in
    let some : 1 ≤ rest = product_some (drop (k + 1) xs) (extents_on xs k h e) in
    let all : whole ≡ count * get_or xs k 0 * rest = grown whole count (get_or xs k 0) rest (is ∙ ap (λ n. count * n) (product_on xs k h)) in
    let least : count * get_or xs k 0 * 1 ≤ count * get_or xs k 0 * rest = mul-le-mul (self_le (count * get_or xs k 0)) some in
    omega (arith, all, least, more)
