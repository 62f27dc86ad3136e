-- Cyclic forms round by round: where a node has no subscript, and where what it has repeats.
use Rattle.std.proofs.Common.{◌≡◌, ℕ, zero, suc, ◌+◌, ◌-◌, ◌*◌, ◌/◌, ◌%◌, ◌<◌, ◌≤◌, ◌⊎◌, inl, inr, Bool, true, false, refl, sym, ◌∙◌, ap, arith, min, max}
use Rattle.std.specs.Prelude.{◌&&◌, ◌==◌}
use Rattle.std.proofs.lemmas.Bool.{cases_lt, ne_eqb}
use Rattle.std.proofs.lemmas.Nat.{div-mul-add, mod-mul-add}
use Rattle.std.proofs.Math.Arith.{mod-mul}
use Rattle.std.proofs.Math.Nat.{mul-le-mul_right}
use Rattle.xmp_move.specs.declared.reach.Reach.{Reach}
use Rattle.xmp_move.specs.declared.leg.Walk.{Walk}
use Rattle.xmp_move.specs.Reaches.{reaches}
use Rattle.xmp_move.specs.Axes.{at}

-- ---- the node's chunk of a round

outside : (w m c y p : ℕ) → 0 < w → 0 < m → y % (m * w) ≡ p → (p < c * w) ⊎ (c * w + w ≤ p) → (((y / w) % m) == c) ≡ false
outside w m c y p hw hm e out = ne_eqb ((y / w) % m) c (λ same.
    let place : y % (m * w) ≡ (y / w % m) * w + y % w = mod-mul y hm hw in
    let low : (y / w % m) * w ≡ c * w = ap (λ z. z * w) same in
    let t : y % w < w = omega arith in
    elim out [
      | inl l ↦ omega (arith, place, low, e, l, t)
      | inr g ↦ omega (arith, place, low, e, g, t)
    ])

-- the place in its round of a position that lies further on
goes_on : (r g d : ℕ) → g % r + d < r → (g + d) % r ≡ g % r + d
goes_on r g d lt =
    let e : g / r * r + (g % r + d) ≡ g + d = omega arith in
    sym (ap (λ x. x % r) e) ∙ mod-mul-add (g / r) r (g % r + d) lt

wraps : (r g d : ℕ) → r ≤ g % r + d → g % r + d - r < r → (g + d) % r ≡ g % r + d - r
wraps r g d ge lt =
    let e : (g / r + 1) * r + (g % r + d - r) ≡ g + d = omega arith in
    sym (ap (λ x. x % r) e) ∙ mod-mul-add (g / r + 1) r (g % r + d - r) lt

chunk_within : (w m c : ℕ) → c < m → c * w + w ≤ m * w
chunk_within w m c lt =
    let last : suc c * w ≤ m * w = mul-le-mul_right {m = suc c} {n = m} w lt in
    let same : suc c * w ≡ c * w + w = omega arith in
    omega (arith, last, same)

pub before_chunk : (w m c g d : ℕ) → 0 < w → c < m → d < c * w - g % (m * w) → ((((g + d) / w) % m) == c) ≡ false
before_chunk w m c g d hw lt l =
    let k = chunk_within w m c lt in
    outside w m c (g + d) (g % (m * w) + d) hw (omega (arith, lt)) (goes_on (m * w) g d (omega (arith, k, l))) (inl (omega (arith, l)))

pub behind_chunk : (w m c g d : ℕ) → 0 < w → c < m → c * w + w ≤ g % (m * w) → d < m * w - g % (m * w) + c * w → ((((g + d) / w) % m) == c) ≡ false
behind_chunk w m c g d hw lt ge l =
    let k = chunk_within w m c lt in
    elim (cases_lt (g % (m * w) + d) (m * w)) [
      | inl inside ↦ outside w m c (g + d) (g % (m * w) + d) hw (omega (arith, lt)) (goes_on (m * w) g d inside) (inr (omega (arith, ge)))
      | inr over ↦
          outside w m c (g + d) (g % (m * w) + d - m * w) hw (omega (arith, lt)) (wraps (m * w) g d over (omega (arith, k, l, over))) (inl (omega (arith, l, over)))
    ]

-- a round later the same node
pub rounds_again : (w m c o t x : ℕ) → 0 < w → 0 < m → (((((x + t * (m * w)) + o) / w) % m) == c) ≡ ((((x + o) / w) % m) == c)
rounds_again w m c o t x hw hm =
    let y : ℕ = x + o in
    let in_chunk : y % w < w = omega arith in
    let in_round : y / w % m < m = omega arith in
    let e : (x + t * (m * w)) + o ≡ (y / w + t * m) * w + y % w = omega arith in
    let f : y / w + t * m ≡ (y / w / m + t) * m + y / w % m = omega arith in
    let quotient : ((x + t * (m * w)) + o) / w ≡ y / w + t * m = ap (λ z. z / w) e ∙ div-mul-add (y / w + t * m) w (y % w) in_chunk in
    let rest : (y / w + t * m) % m ≡ y / w % m = ap (λ z. z % m) f ∙ mod-mul-add (y / w / m + t) m (y / w % m) in_round in
    ap (λ z. z == c) (ap (λ z. z % m) quotient ∙ rest)

-- ---- walks

pub at_more : (walk : Walk) (k i : ℕ) → at walk (k + i) ≡ at walk k + i * walk.step
at_more walk k i = omega arith

times_less : (i q s : ℕ) → i < q → i * s + s ≤ q * s
times_less i q s l =
    let h : suc i * s ≤ q * s = mul-le-mul_right {m = suc i} {n = q} s l in
    let e : suc i * s ≡ i * s + s = omega arith in
    omega (arith, h, e)

steps_below : (i miss step : ℕ) → 1 ≤ step → i < (miss + (step - 1)) / step → i * step < miss
steps_below i miss step some l =
    let h = times_less i ((miss + (step - 1)) / step) step l in
    let q : (miss + (step - 1)) / step * step ≤ miss + (step - 1) = omega arith in
    omega (arith, h, q, some)

pub misses_are : (r : Reach) (walk : Walk) (k i miss : ℕ) → 1 ≤ walk.step → ((d : ℕ) → d < miss → reaches r (at walk k + d) ≡ false)
    → i < (miss + (walk.step - 1)) / walk.step → reaches r (at walk (k + i)) ≡ false
misses_are r walk k i miss some none l = ap (reaches r) (at_more walk k i) ∙ none (i * walk.step) (steps_below i miss walk.step some l)

-- the next place that may pass
pub next_none : (p q : ℕ → Bool) (k a b j : ℕ) → (p k && q k) ≡ false → ((i : ℕ) → i < a → p (k + i) ≡ false) → ((i : ℕ) → i < b → q (k + i) ≡ false)
    → k ≤ j → j < k + max (max a b) 1 → (p j && q j) ≡ false
next_none p q k a b j fails first second le lt =
    let e : k + (j - k) ≡ j = omega (arith, le) in
    elim (cases_lt (j - k) a) [
      | inl l ↦ none_left (p j) (q j) (ap p (sym e) ∙ first (j - k) l)
      | inr ge ↦ elim (cases_lt (j - k) b) [
        | inl l ↦ none_right (p j) (q j) (ap q (sym e) ∙ second (j - k) l)
        | inr more ↦ let same : j ≡ k = omega (arith, le, lt, ge, more) in ap (λ i. p i && q i) same ∙ fails
      ]
    ]
  where
    none_left : (a b : Bool) → a ≡ false → (a && b) ≡ false
    none_left a b e = ap (λ r. r && b) e

    none_right : (a b : Bool) → b ≡ false → (a && b) ≡ false
    none_right true b e = e
    none_right false b e = refl
