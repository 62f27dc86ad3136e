-- Row-major numbers lie below the product, and each belongs to one cell.
use Rattle.std.proofs.Common.{get_or, ◌≡◌, ℕ, zero, suc, ◌+◌, ◌*◌, ◌/◌, ◌%◌, ◌<◌, ◌≤◌, List, [], ◌∷◌, refl, sym, ◌∙◌, ap, arith, length}
use Rattle.std.proofs.lemmas.Nat.{div-mul-add, mod-mul-add}
use Rattle.std.proofs.Math.Nat.{mul-le-mul_right, div-lt_iff_lt-mul}
use Rattle.xmp_map.proofs.Three.{positive}
use Rattle.xmp_map.specs.RowMajor.{product, row_major, unravel}
use Rattle.xmp_map.specs.Boxes.{IsInside}

-- each subscript is below its extent
pub data AllBelow : List ℕ → List ℕ → Type 0 where
  none_below : AllBelow [] []
  more_below : (x e : ℕ) (xs es : List ℕ) → x < e → AllBelow xs es → AllBelow (x ∷ xs) (e ∷ es)

pub row_major-lt : (xs es : List ℕ) → AllBelow xs es → row_major es xs < product es
unfolding row_major product
row_major-lt xs es none_below = omega arith
row_major-lt xs es (more_below x e xs' es' h b) =
    let i = row_major-lt xs' es' b in
    let k : suc x * product es' ≤ e * product es' = mul-le-mul_right {m = suc x} {n = e} (product es') h in
    let l : suc x * product es' ≡ x * product es' + product es' = omega arith in
    omega arith

pub unravel-row_major : (xs es : List ℕ) → AllBelow xs es → unravel es (row_major es xs) ≡ xs
unfolding row_major product unravel
unravel-row_major xs es none_below = refl
unravel-row_major xs es (more_below x e xs' es' h b) =
    let i = row_major-lt xs' es' b in
    rw (div-mul-add x (product es') (row_major es' xs') i, mod-mul-add x (product es') (row_major es' xs') i, unravel-row_major xs' es' b) refl

pub row_major-unique : (xs ys es : List ℕ) → AllBelow xs es → AllBelow ys es → row_major es xs ≡ row_major es ys → xs ≡ ys
row_major-unique xs ys es bx by e = sym (unravel-row_major xs es bx) ∙ ap (λ n. unravel es n) e ∙ unravel-row_major ys es by

pub inside_below : (xs es : List ℕ) → IsInside xs es → AllBelow xs es
unfolding IsInside
inside_below [] [] h = none_below
inside_below (x ∷ xs) (e ∷ es) h = more_below x e xs es h.0 (inside_below xs es h.1)
inside_below [] (e ∷ es) h = absurd h
inside_below (x ∷ xs) [] h = absurd h

pub below_inside : (xs es : List ℕ) → AllBelow xs es → IsInside xs es
unfolding IsInside
below_inside xs es none_below = tt
below_inside xs es (more_below x e xs' es' h b) = (h, below_inside xs' es' b)

pub below_at : (xs es : List ℕ) (k : ℕ) → AllBelow xs es → k < length es → get_or xs k 0 < get_or es k 0
below_at xs es k none_below h = absurd (omega arith)
below_at xs es zero (more_below x e xs' es' lt b) h = lt
below_at xs es (suc k) (more_below x e xs' es' lt b) h = below_at xs' es' k b (omega arith)

pub unravel_below : (es : List ℕ) (n : ℕ) → n < product es → AllBelow (unravel es n) es
unfolding product unravel
unravel_below [] n h = none_below
unravel_below (e ∷ es) n h =
    let p = positive e (product es) (omega arith) in
    more_below (n / product es) e (unravel es (n % product es)) es ((div-lt_iff_lt-mul p.1).1 h) (unravel_below es (n % product es) (omega arith))

-- the subscripts of a number lead back to it
pub row_major-unravel : (es : List ℕ) (n : ℕ) → n < product es → row_major es (unravel es n) ≡ n
unfolding row_major product unravel
row_major-unravel [] n h = omega arith
row_major-unravel (e ∷ es) n h =
    let p = positive e (product es) (omega arith) in
    let i = row_major-unravel es (n % product es) (omega arith) in
    omega arith

pub length_below : (xs es : List ℕ) → AllBelow xs es → length xs ≡ length es
length_below xs es none_below = refl
length_below xs es (more_below x e xs' es' h b) = let i = length_below xs' es' b in omega arith
