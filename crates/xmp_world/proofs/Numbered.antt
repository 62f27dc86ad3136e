-- Cells of a box by their row-major numbers.
use Rattle.std.proofs.Common.{◌≡◌, ◌<◌, ◌≤◌, ◌+◌, ◌*◌, ◌/◌, ◌%◌, ℕ, zero, suc, Bool, true, false, if◌then◌else◌, List, [], ◌∷◌, refl, sym, ap, ◌∙◌, arith}
use Rattle.std.proofs.lemmas.Nat.{div-mul-add, mod-mul-add}
use Rattle.xmp_dist.specs.Count.{count_below}
use Rattle.xmp_dist.proofs.Counting.{count_below-zero, count_below-yes, count_below-no, count_below-same, count_below-shift}
use Rattle.xmp_map.specs.RowMajor.{product, row_major, unravel}
use Rattle.xmp_map.specs.Boxes.{sum_below, count_cells, count_before}
use Rattle.xmp_map.proofs.Order.{AllBelow, none_below, more_below, row_major-lt}

-- ---- the rows of a box

module _ (es : List ℕ) (test : List ℕ → Bool) where
  abbrev passes : ℕ → Bool
  passes n = test (n / product es ∷ unravel es (n % product es))

  swapped : (n x : ℕ) → n + x * product es ≡ x * product es + n
  swapped n x = omega arith

  -- a part of a row
  row : (x k : ℕ) → k ≤ product es → count_below (λ n. passes (n + x * product es)) k ≡ count_below (λ n. test (x ∷ unravel es n)) k
  row x k l = count_below-same (λ n. passes (n + x * product es)) (λ n. test (x ∷ unravel es n)) k
      (λ n lt. let below : n < product es = omega (arith, lt, l) in
      let q : (n + x * product es) / product es ≡ x = ap (λ k. k / product es) (swapped n x) ∙ div-mul-add x (product es) n below in
      let r : (n + x * product es) % product es ≡ n = ap (λ k. k % product es) (swapped n x) ∙ mod-mul-add x (product es) n below in
      ap (λ k. test (k ∷ unravel es ((n + x * product es) % product es))) q ∙ ap (λ k. test (x ∷ unravel es k)) r)

  -- the rows before, and then a part of a row
  pub row_more : (x k : ℕ) → k ≤ product es
      → count_below passes (x * product es + k) ≡ count_below passes (x * product es) + count_below (λ n. test (x ∷ unravel es n)) k
  row_more x k l =
      let shift : count_below (λ n. passes (n + x * product es)) k + count_below passes (x * product es) ≡ count_below passes (k + x * product es) = count_below-shift passes (x * product es) k in
      let here = row x k l in
      let turned : count_below passes (x * product es + k) ≡ count_below passes (k + x * product es) = ap (count_below passes) (sym (swapped k x)) in
      omega (arith, shift, here, turned)

  rows_before : ((x : ℕ) → count_below (λ n. test (x ∷ unravel es n)) (product es) ≡ count_cells es (λ xs. test (x ∷ xs)))
      → (x : ℕ) → count_below passes (x * product es) ≡ sum_below (λ y. count_cells es (λ xs. test (y ∷ xs))) x
  unfolding sum_below
  rows_before inner zero = ap (count_below passes) (let z : 0 * product es ≡ 0 = omega arith in z) ∙ count_below-zero passes
  rows_before inner (suc x) = ap (count_below passes) (let z : suc x * product es ≡ x * product es + product es = omega arith in z)
      ∙ (row_more x (product es) (let l : product es ≤ product es = omega arith in l)
      ∙ (let i = rows_before inner x in let k = inner x in omega (arith, i, k)))

-- a box's cells that pass, by their numbers
pub numbered : (es : List ℕ) (test : List ℕ → Bool) → count_below (λ n. test (unravel es n)) (product es) ≡ count_cells es test
unfolding product unravel count_cells
numbered [] test = at_test (test []) refl
  where
    at_test : (b : Bool) → test [] ≡ b → count_below (λ n. test []) 1 ≡ (if b then 1 else 0)
    at_test true h = count_below-yes (λ n. test []) 0 h ∙ ap (λ n. n + 1) (count_below-zero (λ n. test []))
    at_test false h = count_below-no (λ n. test []) 0 h ∙ count_below-zero (λ n. test [])
numbered (e ∷ es) test = rows_before es test (λ x. numbered es (λ xs. test (x ∷ xs))) e

-- the cells before a cell that pass, by their numbers
pub numbered_before : (es xs : List ℕ) (test : List ℕ → Bool) → AllBelow xs es
    → count_before es test xs ≡ count_below (λ n. test (unravel es n)) (row_major es xs)
unfolding count_before row_major unravel
numbered_before es xs test none_below = sym (count_below-zero (λ n. test []))
numbered_before es xs test (more_below x e ys fs l b) =
    let before = rows_before fs test (λ x. numbered fs (λ zs. test (x ∷ zs))) x in
    let inner = numbered_before fs ys (λ zs. test (x ∷ zs)) b in
    let small = row_major-lt ys fs b in
    let more = row_more fs test x (row_major fs ys) (let s : row_major fs ys ≤ product fs = omega (arith, small) in s) in
    omega (arith, before, inner, more)
