-- The closed formula for the positions below `n` that a node owns in a cyclic form.
use Rattle.std.proofs.Common.{◌≡◌, ℕ, suc, ◌+◌, ◌-◌, ◌*◌, ◌/◌, ◌%◌, ◌<◌, ◌≤◌, ◌⊎◌, inl, inr, refl, sym, ◌∙◌, ap, arith, min}
use Rattle.std.specs.Prelude.{◌==◌}
use Rattle.std.proofs.lemmas.Bool.{cases_lt}
use Rattle.std.proofs.lemmas.Bool.Decides.{nat_tests}
use Rattle.std.proofs.lemmas.Nat.{div-mul-add, mod-mul-add}
use Rattle.std.proofs.Math.Arith.{mod-mul}
use Rattle.std.proofs.Math.Nat.{mul-le-mul, mul-le-mul_right, zero-div, zero-mod, mul_assoc}
use Rattle.xmp_dist.specs.Count.{count_below}
use Rattle.xmp_dist.proofs.Counting.{one_if, count_below-is}

-- `m` nodes, width `w`, node `c`: whole rounds, and then what the last round has of the node's chunk
unfoldable pub cyclic_count : ℕ → ℕ → ℕ → ℕ → ℕ
cyclic_count w m c n = n / (m * w) * w + min w (n % (m * w) - c * w)

-- one more: the last round goes on, or the next one begins
pub round_step : (n r : ℕ) → 0 < r → ((n % r + 1 < r) × ((n + 1) / r ≡ n / r) × ((n + 1) % r ≡ n % r + 1)) ⊎ ((n % r + 1 ≡ r) × ((n + 1) / r ≡ n / r + 1) × ((n + 1) % r ≡ 0))
round_step n r h =
    elim (cases_lt (n % r + 1) r) [
      | inl lt ↦
          let e : n / r * r + (n % r + 1) ≡ n + 1 = omega arith in
          inl (lt, sym (ap (λ x. x / r) e) ∙ div-mul-add (n / r) r (n % r + 1) lt, sym (ap (λ x. x % r) e) ∙ mod-mul-add (n / r) r (n % r + 1) lt)
      | inr ge ↦
          let top : n % r + 1 ≡ r = omega arith in
          let e : (n / r + 1) * r + 0 ≡ n + 1 = omega arith in
          inr (top, sym (ap (λ x. x / r) e) ∙ div-mul-add (n / r + 1) r 0 h, sym (ap (λ x. x % r) e) ∙ mod-mul-add (n / r + 1) r 0 h)
    ]

-- how far the step moves what the last round has of chunk `c`, at place `t` of chunk `s`
pub chunk_on : (w c s t : ℕ) → t < w → min w (s * w + t + 1 - c * w) ≡ min w (s * w + t - c * w) + one_if (s == c)
chunk_on w c s t h =
    elim (cases_lt s c) [
      | inl lt ↦ let k = mul-le-mul_right {m = suc s} {n = c} w lt in let l : suc s * w ≡ s * w + w = omega arith in grind (arith, nat_tests)
      | inr ge ↦ elim (cases_lt c s) [
        | inl gt ↦ let k = mul-le-mul_right {m = suc c} {n = s} w gt in let l : suc c * w ≡ c * w + w = omega arith in grind (arith, nat_tests)
        | inr le ↦ let e : s ≡ c = omega arith in let k = ap (λ x. x * w) e in grind (arith, nat_tests)
      ]
    ]

pub cyclic_step : (w m c n : ℕ) → 0 < w → c < m → cyclic_count w m c (suc n) ≡ cyclic_count w m c n + one_if (((n / w) % m) == c)
unfolding cyclic_count
cyclic_step w m c n hw hc =
    let hm : 0 < m = omega arith in
    let hr : 0 < m * w = mul-le-mul {n₁ = 1} {m₁ = 1} {n₂ = m} {m₂ = w} hm hw in
    let place : n % (m * w) ≡ (n / w % m) * w + n % w = mod-mul n hm hw in
    let t : n % w < w = omega arith in
    let k : min w (n % (m * w) + 1 - c * w) ≡ min w (n % (m * w) - c * w) + one_if (n / w % m == c) =
    rw place (chunk_on w c (n / w % m) (n % w) t) in
    let last : suc c * w ≤ m * w = mul-le-mul_right {m = suc c} {n = m} w hc in
    let last' : suc c * w ≡ c * w + w = omega arith in
    let one : suc n ≡ n + 1 = omega arith in
    elim (round_step n (m * w) hr) [
      | inl a ↦ rw (one, a.1, a.2) (omega arith)
      | inr a ↦
          let z : min w (0 - c * w) ≡ 0 = omega arith in
          let full : min w (n % (m * w) + 1 - c * w) ≡ w = omega arith in
          let more : (n / (m * w) + 1) * w ≡ n / (m * w) * w + w = omega arith in
          rw (one, a.1, a.2) (omega arith)
    ]

pub cyclic_start : (w m c : ℕ) → cyclic_count w m c 0 ≡ 0
unfolding cyclic_count
cyclic_start w m c = rw (zero-div, zero-mod) (omega arith)

pub cyclic_is : (w m c n : ℕ) → 0 < w → c < m → count_below (λ x. ((x / w) % m) == c) n ≡ cyclic_count w m c n
cyclic_is w m c n hw hc =
    count_below-is (λ x. ((x / w) % m) == c) (cyclic_count w m c) n (cyclic_start w m c) (λ x _. cyclic_step w m c x hw hc)

-- the position with number `l` of node `c`
unfoldable pub cyclic_global : ℕ → ℕ → ℕ → ℕ → ℕ
cyclic_global w m c l = l / w * (m * w) + (c * w + l % w)

pub cyclic_global-count : (w m c l : ℕ) → 0 < w → c < m → cyclic_count w m c (cyclic_global w m c l) ≡ l
unfolding cyclic_count cyclic_global
cyclic_global-count w m c l hw hc =
    let t : l % w < w = omega arith in
    let last : suc c * w ≤ m * w = mul-le-mul_right {m = suc c} {n = m} w hc in
    let last' : suc c * w ≡ c * w + w = omega arith in
    let inside : c * w + l % w < m * w = omega arith in
    rw (div-mul-add (l / w) (m * w) (c * w + l % w) inside, mod-mul-add (l / w) (m * w) (c * w + l % w) inside) (omega arith)

pub cyclic_global-owner : (w m c l : ℕ) → 0 < w → c < m → (cyclic_global w m c l / w) % m ≡ c
unfolding cyclic_global
cyclic_global-owner w m c l hw hc =
    let t : l % w < w = omega arith in
    let e : l / w * (m * w) + (c * w + l % w) ≡ (l / w * m + c) * w + l % w = omega (arith, mul_assoc (l / w) m w) in
    rw (e, div-mul-add (l / w * m + c) w (l % w) t, mod-mul-add (l / w) m c hc) refl
