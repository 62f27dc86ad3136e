-- Lists of three, as the arrays of a grid, a cell or a map are.
use Rattle.std.proofs.Common.{◌≡◌, ℕ, zero, suc, ◌+◌, ◌*◌, ◌/◌, ◌%◌, ◌<◌, ◌≤◌, List, [], ◌∷◌, refl, ◌∙◌, ap, arith, length, get_or}
use Rattle.std.proofs.Math.Nat.{div-one, mul-le-mul_right, mul-le-mul}
use Rattle.xmp_map.specs.RowMajor.{product, row_major, unravel}

pub three : {A : Type 0} (xs : List A) (d : A) → length xs ≡ 3 → xs ≡ (get_or xs 0 d ∷ get_or xs 1 d ∷ get_or xs 2 d ∷ [])
three [] d l = absurd (omega arith)
three (a ∷ []) d l = absurd (omega arith)
three (a ∷ b ∷ []) d l = absurd (omega arith)
three (a ∷ b ∷ c ∷ []) d l = refl
three (a ∷ b ∷ c ∷ e ∷ xs) d l = absurd (omega arith)

pub three_of : {A : Type 0} (xs : List A) (d0 d1 d2 : A) → length xs ≡ 3 → xs ≡ (get_or xs 0 d0 ∷ get_or xs 1 d1 ∷ get_or xs 2 d2 ∷ [])
three_of [] d0 d1 d2 l = absurd (omega arith)
three_of (a ∷ []) d0 d1 d2 l = absurd (omega arith)
three_of (a ∷ b ∷ []) d0 d1 d2 l = absurd (omega arith)
three_of (a ∷ b ∷ c ∷ []) d0 d1 d2 l = refl
three_of (a ∷ b ∷ c ∷ e ∷ xs) d0 d1 d2 l = absurd (omega arith)

pub product-three : (a b c : ℕ) → product (a ∷ b ∷ c ∷ []) ≡ a * b * c
unfolding product
product-three a b c = omega arith

pub row_major-three : (a b c x y z : ℕ) → row_major (a ∷ b ∷ c ∷ []) (x ∷ y ∷ z ∷ []) ≡ (x * b + y) * c + z
unfolding row_major product
row_major-three a b c x y z = omega arith

pub unravel-three : (a b c n : ℕ) → unravel (a ∷ b ∷ c ∷ []) n ≡ (n / (b * c) ∷ n % (b * c) / c ∷ n % (b * c) % c ∷ [])
unfolding unravel product
unravel-three a b c n =
    let e : b * (c * 1) ≡ b * c = omega arith in
    let f : c * 1 ≡ c = omega arith in
    rw (e, f, div-one (n % (b * c) % c)) refl

pub product_of : (xs : List ℕ) → length xs ≡ 3 → product xs ≡ get_or xs 0 0 * get_or xs 1 0 * get_or xs 2 0
product_of xs l = ap (λ ys. product ys) (three xs 0 l) ∙ product-three (get_or xs 0 0) (get_or xs 1 0) (get_or xs 2 0)

pub row_major_of : (es xs : List ℕ) → length es ≡ 3 → length xs ≡ 3 → row_major es xs ≡ (get_or xs 0 0 * get_or es 1 0 + get_or xs 1 0) * get_or es 2 0 + get_or xs 2 0
row_major_of es xs l k =
    ap (λ ys. row_major ys xs) (three es 0 l)
    ∙ ap (λ ys. row_major (get_or es 0 0 ∷ get_or es 1 0 ∷ get_or es 2 0 ∷ []) ys) (three xs 0 k)
    ∙ row_major-three (get_or es 0 0) (get_or es 1 0) (get_or es 2 0) (get_or xs 0 0) (get_or xs 1 0) (get_or xs 2 0)

pub place_of : (es : List ℕ) (n : ℕ) → length es ≡ 3 → unravel es n ≡ (n / (get_or es 1 0 * get_or es 2 0) ∷ n % (get_or es 1 0 * get_or es 2 0) / get_or es 2 0 ∷ n % (get_or es 1 0 * get_or es 2 0) % get_or es 2 0 ∷ [])
place_of es n l = ap (λ ys. unravel ys n) (three es 0 l) ∙ unravel-three (get_or es 0 0) (get_or es 1 0) (get_or es 2 0) n

-- factors of a product that is not 0
pub positive : (a b : ℕ) → 0 < a * b → (0 < a) × (0 < b)
positive zero b h = absurd (omega arith)
positive (suc a) zero h = absurd (omega arith)
positive (suc a) (suc b) h = (omega arith, omega arith)

pub le_times : (a b : ℕ) → 0 < a → b ≤ a * b
le_times a b h = let k = mul-le-mul_right {m = 1} {n = a} b h in omega arith

pub record RowsFit (a b c most : ℕ) : Type 0 where
  pub columns : 0 < c
  pub rows : 0 < b * c
  pub fit : b * c ≤ most

pub rows_fit : (a b c n most : ℕ) → n < a * b * c → a * b * c ≤ most → RowsFit a b c most
rows_fit a b c n most h s =
    let outer = positive (a * b) c (omega arith) in
    let inner = positive a b outer.0 in
    let k : 0 < b * c = mul-le-mul {n₁ = 1} {m₁ = 1} {n₂ = b} {m₂ = c} inner.1 outer.1 in
    let l = le_times a (b * c) inner.0 in
    record { columns = outer.1; rows = k; fit = omega arith }

-- a unravel inside
pub record PlaceFits (b c x y z most : ℕ) : Type 0 where
  pub plane : x * b ≤ most
  pub row : x * b + y ≤ most
  pub times : (x * b + y) * c ≤ most
  pub all : (x * b + y) * c + z ≤ most

pub place_fits : (a b c x y z most : ℕ) → a * b ≤ most → a * b * c ≤ most → x < a → y < b → z < c → PlaceFits b c x y z most
place_fits a b c x y z most p s hx hy hz =
    let k : suc x * b ≤ a * b = mul-le-mul_right {m = suc x} {n = a} b hx in
    let k' : suc x * b ≡ x * b + b = omega arith in
    let r : suc (x * b + y) ≤ a * b = omega arith in
    let m : suc (x * b + y) * c ≤ a * b * c = mul-le-mul_right {m = suc (x * b + y)} {n = a * b} c r in
    let m' : suc (x * b + y) * c ≡ (x * b + y) * c + c = omega arith in
    record { plane = omega arith; row = omega arith; times = omega arith; all = omega arith }
