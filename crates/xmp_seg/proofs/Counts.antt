-- How many arrivals there are in a world, and what follows where enough were found.
use Rattle.std.proofs.Common.{◌≡◌, ◌≢◌, ℕ, ℤ, zero, suc, ◌+◌, ◌*◌, ◌^◌, ◌<◌, ◌≤◌, Bool, true, false, refl, sym, ap, ◌∙◌, subst, arith, inl, inr, ◌⊎◌, true≢false, mul-le-mul}
use Rattle.std.proofs.lemmas.Bool.{cases_eq, cases_lt}
use Rattle.xmp_script.specs.Script.{Script, at}
use Rattle.xmp_script.specs.World.{World, arrivals, MayPass, has_arrived, passed}
use Rattle.xmp_script.proofs.Words.{at_same, at_other}
use Rattle.xmp_script.proofs.Orders.{InOrder}
use Rattle.xmp_seg.specs.Rule.{total}

pub total_same : (f g : ℕ → ℕ) (n : ℕ) → ((j : ℕ) → j < n → g j ≡ f j) → total g n ≡ total f n
total_same f g zero same = refl
total_same f g (suc n) same = let h = total_same f g n (λ j lj. same j (omega arith)) in let h' = same n (omega arith) in omega arith

pub total_zero : (n : ℕ) → total (λ j. 0) n ≡ 0
total_zero zero = refl
total_zero (suc n) = let h = total_zero n in omega arith

-- one more at k
pub total_more : (f g : ℕ → ℕ) (n k : ℕ) → k < n → g k ≡ suc (f k) → ((j : ℕ) → j ≢ k → g j ≡ f j) → total g n ≡ suc (total f n)
total_more f g zero k lt more same = absurd (omega arith)
total_more f g (suc n) k lt more same = elim (cases_eq k n) [
  | inl e ↦
      let rest = total_same f g n (λ j lj. same j (λ eq. absurd (omega arith))) in
      let P : ℕ → Type 0 = λ x. g x ≡ suc (f x) in
      let last = subst P e more in
      omega arith
  | inr ne ↦
      let rest = total_more f g n k (omega arith) more same in
      let last = same n (λ eq. ne (sym eq)) in
      omega arith
]

pub total_most : (f : ℕ → ℕ) (n b : ℕ) → ((j : ℕ) → j < n → f j ≤ b) → total f n ≤ n * b
total_most f zero b le = omega arith
total_most f (suc n) b le = let h = total_most f n b (λ j lj. le j (omega arith)) in let h' = le n (omega arith) in omega arith

total_short : (f : ℕ → ℕ) (n b j : ℕ) → ((i : ℕ) → i < n → f i ≤ b) → j < n → f j < b → total f n < n * b
total_short f zero b j le lt less = absurd (omega arith)
total_short f (suc n) b j le lt less = elim (cases_eq j n) [
  | inl e ↦ (let h = total_most f n b (λ i li. le i (omega arith)) in let P : ℕ → Type 0 = λ x. f x < b in let h' = subst P e less in omega arith)
  | inr ne ↦ (let h = total_short f n b j (λ i li. le i (omega arith)) (omega arith) less in let h' = le n (omega arith) in omega arith)
]

arrived_more : (w : World ℤ) (j : ℕ) → w.arrived j ≡ true → arrivals w j ≡ suc (w.phase j)
arrived_more w j e = rw e

not_arrived : (w : World ℤ) (j : ℕ) → w.arrived j ≡ false → arrivals w j ≡ w.phase j
not_arrived w j e = rw e

arrivals_low : (w : World ℤ) (j : ℕ) → w.phase j ≤ arrivals w j
arrivals_low w j = grind arith

arrivals_high : (w : World ℤ) (j : ℕ) → arrivals w j ≤ suc (w.phase j)
arrivals_high w j = grind arith

at_least : (s : Script ℤ) (w : World ℤ) (q j : ℕ) → InOrder s w q → j < s.images → q ≤ arrivals w j
at_least s w q j o lj = elim (o.near j lj) [
  | inl e ↦ (let h = arrivals_low w j in omega arith)
  | inr back ↦ (let h = arrived_more w j back.1 in let b = back.0 in omega arith)
]

at_most : (s : Script ℤ) (w : World ℤ) (q j : ℕ) → InOrder s w q → j < s.images → arrivals w j ≤ suc q
at_most s w q j o lj = let h = arrivals_high w j in elim (o.near j lj) [ inl e ↦ omega arith | inr back ↦ (let b = back.0 in omega arith) ]

-- where as many arrivals were found as its phase needs, an image that has arrived may pass
pub may_pass : (s : Script ℤ) (w : World ℤ) (q k : ℕ) → InOrder s w q → k < s.images → w.arrived k ≡ true → s.images * suc (w.phase k) ≤ total (arrivals w) s.images → MayPass s w k
may_pass s w q k o lk here found = (
  here,
  λ j lj. elim (o.near k lk) [
    | inl now ↦ elim (cases_lt q (arrivals w j)) [
      | inl more ↦ (let h = more in omega arith)
      | inr few ↦ absurd (let short = total_short (arrivals w) s.images (suc q) j (λ i li. at_most s w q i o li) lj (omega arith) in
          let P : ℕ → Type 0 = λ x. s.images * suc x ≤ total (arrivals w) s.images in let f = subst P now found in omega arith)
    ]
    | inr back ↦ (let h = at_least s w q j o lj in let b = back.0 in omega arith)
  ],
)

-- all arrivals of 16 images in 2 ^ 40 phases fit 64 bits
pub total_small : (s : Script ℤ) (w : World ℤ) (q : ℕ) → InOrder s w q → s.images ≤ 16 → s.phases ≤ 2 ^ 40 → total (arrivals w) s.images + 1 < 2 ^ 64
total_small s w q o few short =
    let most = total_most (arrivals w) s.images (suc q) (λ j lj. at_most s w q j o lj) in
    let low = o.low in
    let a : s.images * suc q ≤ 16 * suc (2 ^ 40) = mul-le-mul {m₂ = suc (2 ^ 40)} few (omega (arith, low, short)) in
    omega arith

-- an arrival is one more
pub arrival_more : (w : World ℤ) (k n : ℕ) → k < n → w.arrived k ≡ false → total (arrivals (has_arrived w k)) n ≡ suc (total (arrivals w) n)
arrival_more w k n lk here =
    total_more (arrivals w) (arrivals (has_arrived w k)) n k lk
    (arrived_more (has_arrived w k) k (at_same w.arrived k true k refl) ∙ sym (ap (λ x. suc x) (not_arrived w k here)))
    (λ j ne. rw (at_other w.arrived k true j ne))

-- a departure changes no count
pub arrivals_stay : (w : World ℤ) (k j : ℕ) → w.arrived k ≡ true → arrivals (passed w k) j ≡ arrivals w j
arrivals_stay w k j here = elim (cases_eq j k) [
  | inl e ↦ (let P : ℕ → Type 0 = λ x. arrivals (passed w k) x ≡ arrivals w x in subst P (sym e) (rw (at_same w.arrived k false k refl, at_same w.phase k (suc (w.phase k)) k refl, here)))
  | inr ne ↦ rw (at_other w.arrived k false j ne, at_other w.phase k (suc (w.phase k)) j ne)
]
