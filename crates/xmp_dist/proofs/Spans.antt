-- Each chunk of a block or gblock form is an interval.
use Rattle.std.proofs.Common.{◌≡◌, ℕ, zero, suc, ◌+◌, ◌-◌, ◌*◌, ◌/◌, ◌%◌, ◌<◌, ◌≤◌, inl, inr, List, [], ◌∷◌, refl, ap, arith, cond, min, sum, take, length, drop, get_or, drop-cons, add-one}
use Rattle.std.specs.Prelude.{nat_lt, nat_le, ◌&&◌, ◌==◌}
use Rattle.std.proofs.lemmas.Bool.{cases_lt}
use Rattle.std.proofs.lemmas.Bool.Decides.{nat_tests}
use Rattle.std.proofs.Math.Nat.{mul-le-mul_right, mul-le-mul}
use Rattle.std.proofs.lemmas.List.Sums.{sum_by-cons, sum_by-take-le}
use Rattle.std.proofs.lemmas.Grind.{div_ceil_times}
use Rattle.std.proofs.lemmas.List.{take-take}
use Rattle.std.proofs.Math.Seq.{drop-length}
use Rattle.std.specs.Int.{div_ceil}
use Rattle.xmp_dist.specs.Table.{chunk_of}

-- block: chunk `c` of length `b`, cut off at the size
pub block_test : (b c size x : ℕ) → 0 < b → x < size → ((x / b) == c) ≡ (nat_le (min size (c * b)) x && nat_lt x (min size (c * b + b)))
block_test b c size x hb hx =
    let place : x / b * b + x % b ≡ x = omega arith in
    let t : x % b < b = omega arith in
    elim (cases_lt (x / b) c) [
      | inl lt ↦ let k = mul-le-mul_right {m = suc (x / b)} {n = c} b lt in let l : suc (x / b) * b ≡ x / b * b + b = omega arith in
          let far : x < c * b = omega arith in
          grind (arith, nat_tests)
      | inr ge ↦ elim (cases_lt c (x / b)) [
        | inl gt ↦ let k = mul-le-mul_right {m = suc c} {n = x / b} b gt in let l : suc c * b ≡ c * b + b = omega arith in
            let far : c * b + b ≤ x = omega arith in
            grind (arith, nat_tests)
        | inr le ↦ let e : x / b ≡ c = omega arith in let k = ap (λ y. y * b) e in
            let from : c * b ≤ x = omega arith in let to : x < c * b + b = omega arith in
            grind (arith, nat_tests)
      ]
    ]

-- `m` chunks cover the size
pub div_ceil_covers : (n m : ℕ) → 0 < m → n ≤ m * div_ceil n m
div_ceil_covers n m h =
    let k = div_ceil_times n m h in
    let e : m * div_ceil n m ≡ div_ceil n m * m = omega arith in
    omega arith

pub div_ceil_pos : (n m : ℕ) → 0 < n → 0 < m → 0 < div_ceil n m
div_ceil_pos n m hn hm =
    let h = div_ceil_covers n m hm in
    elim (cases_lt 0 (div_ceil n m)) [
      | inl lt ↦ lt
      | inr le ↦ let z : div_ceil n m ≡ 0 = omega arith in let k : m * div_ceil n m ≡ m * 0 = ap (λ y. m * y) z in absurd (omega arith)
    ]

pub div_ceil_le : (n m : ℕ) → 0 < n → 0 < m → div_ceil n m ≤ n
div_ceil_le n m hn hm =
    let k = div_ceil_times n m hm in
    elim (cases_lt n (div_ceil n m)) [
      | inl lt ↦
          let f : suc n * m ≤ div_ceil n m * m = mul-le-mul_right {m = suc n} {n = div_ceil n m} m lt in
          let e : suc n * m ≡ n * m + m = omega arith in
          let g : n * 1 ≤ n * m = mul-le-mul {n₁ = n} {m₁ = 1} {n₂ = n} {m₂ = m} (omega arith) hm in
          absurd (omega arith)
      | inr le ↦ le
    ]

pub block_lt : (n m x : ℕ) → 0 < m → x < n → x / div_ceil n m < m
block_lt n m x hm hx =
    let b = div_ceil n m in
    let pos_b : 0 < div_ceil n m = div_ceil_pos n m (omega arith) hm in
    let cover = div_ceil_covers n m hm in
    elim (cases_lt (x / div_ceil n m) m) [
      | inl lt ↦ lt
      | inr ge ↦
          let k : m * div_ceil n m ≤ x / div_ceil n m * div_ceil n m = mul-le-mul_right (div_ceil n m) ge in
          let place : x / div_ceil n m * div_ceil n m ≤ x = omega arith in
          absurd (omega arith)
    ]

pub sum-cons : (m : ℕ) (ms : List ℕ) → sum (m ∷ ms) ≡ m + sum ms
sum-cons m ms = sum_by-cons (λ x. x) m ms

-- gblock: chunks laid end to end
near_test : (m x k : ℕ) → (cond (nat_lt x m) 0 (1 + k) == 0) ≡ (nat_le 0 x && nat_lt x (0 + m))
near_test m x k = grind (arith, nat_tests)

far_test : (m x k c S S' : ℕ) → (m ≤ x → (k == c) ≡ (nat_le S (x - m) && nat_lt (x - m) S')) → (cond (nat_lt x m) 0 (1 + k) == suc c) ≡ (nat_le (m + S) x && nat_lt x (m + S'))
far_test m x k c S S' h =
    elim (cases_lt x m) [
      | inl lt ↦ grind (arith, nat_tests)
      | inr ge ↦ let i = h ge in grind (arith, nat_tests)
    ]

pub chunk_test : (ms : List ℕ) (c x : ℕ) → x < sum ms → ((chunk_of ms x) == c) ≡ (nat_le (sum (take c ms)) x && nat_lt x (sum (take (suc c) ms)))
unfolding chunk_of
chunk_test [] c x h = absurd (omega arith)
chunk_test (m ∷ ms) zero x h = near_test m x (chunk_of ms (x - m))
chunk_test (m ∷ ms) (suc c) x h =
    let all = sum-cons m ms in
    rw (sum-cons m (take c ms), sum-cons m (take (suc c) ms))
    (far_test m x (chunk_of ms (x - m)) c (sum (take c ms)) (sum (take (suc c) ms)) (λ ge. chunk_test ms c (x - m) (omega arith)))

lt_step : (m x k n : ℕ) → (m ≤ x → k < n) → cond (nat_lt x m) 0 (1 + k) < suc n
lt_step m x k n h =
    elim (cases_lt x m) [
      | inl lt ↦ grind (arith, nat_tests)
      | inr ge ↦ let i = h ge in grind (arith, nat_tests)
    ]

pub chunk_lt : (ms : List ℕ) (x : ℕ) → x < sum ms → chunk_of ms x < length ms
unfolding chunk_of
chunk_lt [] x h = absurd (omega arith)
chunk_lt (m ∷ ms) x h =
    let all = sum-cons m ms in
    lt_step m x (chunk_of ms (x - m)) (length ms) (λ ge. chunk_lt ms (x - m) (omega arith))

-- the loop's turn at index `i`: the chunk is found, or the rest of `g` is looked for further on
pub chunk_here : (xs : List ℕ) (i r : ℕ) → i < length xs → r < get_or xs i 0 → chunk_of (drop i xs) r ≡ 0
unfolding chunk_of
chunk_here xs i r hi hr = rw (drop-cons xs i 0 hi) (grind (arith, nat_tests))

pub chunk_next : (xs : List ℕ) (i r : ℕ) → i < length xs → get_or xs i 0 ≤ r → chunk_of (drop i xs) r ≡ 1 + chunk_of (drop (i + 1) xs) (r - get_or xs i 0)
unfolding chunk_of
chunk_next xs i r hi hr = rw (drop-cons xs i 0 hi, add-one) (grind (arith, nat_tests))

pub chunk_none : (xs : List ℕ) (r : ℕ) → chunk_of (drop (length xs) xs) r ≡ 0
unfolding chunk_of
chunk_none xs r = rw (drop-length xs) refl

pub sum_take_le : (ms : List ℕ) (c : ℕ) → sum (take c ms) ≤ sum ms
sum_take_le ms c = sum_by-take-le (λ x. x) ms c

pub sum_take_mono : (ms : List ℕ) (c : ℕ) → sum (take c ms) ≤ sum (take (c + 1) ms)
sum_take_mono ms c =
    let h = sum_take_le (take (c + 1) ms) c in
    let le : c ≤ c + 1 = omega arith in
    let k : sum (take c (take (c + 1) ms)) ≡ sum (take c ms) = ap (λ l. sum l) (take-take c (c + 1) ms le) in
    omega arith
