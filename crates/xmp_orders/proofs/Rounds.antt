-- The first that can move, counted upwards and round, is a choice of such that can move.
use Rattle.std.proofs.Common.{◌≡◌, ℕ, zero, suc, ◌+◌, ◌-◌, ◌<◌, ◌≤◌, true, false, refl, sym, ap, arith, subst, true≢false, ◌⊎◌, inl, inr}
use Rattle.std.proofs.lemmas.Bool.{cases_lt, cases_Bool, lt-ltb, le-ltb}
use Rattle.xmp_orders.specs.Movers.{Moved, Movers, Stepped, NotYet, AlreadyEnded}
use Rattle.xmp_orders.specs.Choices.{PicksSteps, can_move, round, first_from, first_able}

able_is : (a : Moved) → (elim a [ Stepped ↦ true | NotYet ↦ false | AlreadyEnded ↦ false ]) ≡ true → a ≡ Stepped
able_is Stepped e = refl
able_is NotYet e = absurd (true≢false (sym e))
able_is AlreadyEnded e = absurd (true≢false (sym e))

step_can : {W : Type 0} (m : Movers W) (w : W) (k : ℕ) → m.answer w k ≡ Stepped → can_move m w k ≡ true
step_can m w k e = ap (λ a. elim a [ Stepped ↦ true | NotYet ↦ false | AlreadyEnded ↦ false ]) e

round_on : (count k : ℕ) → suc k < count → round count k ≡ suc k
round_on count k lt = rw (lt-ltb (suc k) count lt)

round_back : (count k : ℕ) → count ≤ suc k → round count k ≡ 0
round_back count k le = rw (le-ltb (suc k) count le)

-- j, which can move, stands so far behind k, counted round
first_able_from : {W : Type 0} (m : Movers W) (w : W) (many k j far : ℕ) → k < m.count → j < m.count →
    m.answer w j ≡ Stepped → far < many →
    ((k + far ≡ j) ⊎ (k + far ≡ m.count + j)) →
    (first_from m w many k < m.count) × (m.answer w (first_from m w many k) ≡ Stepped)
first_able_from m w zero k j far lk lj step near at-j = absurd (omega arith)
first_able_from {W} m w (suc many) k j zero lk lj step near (inl e) =
    let P : ℕ → Type 0 = λ x. m.answer w x ≡ Stepped in
    let here : m.answer w k ≡ Stepped = subst P (omega (arith, sym e)) step in
    rw (step_can m w k here) (lk, here)
first_able_from m w (suc many) k j zero lk lj step near (inr e) = absurd (omega arith)
first_able_from {W} m w (suc many) k j (suc far) lk lj step near at-j = elim (cases_Bool (can_move m w k)) [
  | inl can ↦ rw can (lk, able_is (m.answer w k) can)
  | inr cannot ↦ elim (cases_lt (suc k) m.count) [
    | inl on ↦ rw (cannot, round_on m.count k on) (first_able_from m w many (suc k) j far on lj step (omega arith) (elim at-j [ inl e ↦ inl (omega arith) | inr e ↦ inr (omega arith) ]))
    | inr back ↦ rw (cannot, round_back m.count k back) (first_able_from m w many 0 j far (omega arith) lj step (omega arith) (elim at-j [ inl e ↦ absurd (omega arith) | inr e ↦ inl (omega arith) ]))
  ]
]

pub firsts_pick : {W : Type 0} (m : Movers W) (from onward : ℕ → ℕ) → ((x : ℕ) → from x < m.count) →
    PicksSteps m (first_able m from onward)
firsts_pick m from onward low x w j lj step = elim (cases_lt j (from x)) [
  | inl before ↦ first_able_from m w m.count (from x) j ((m.count - from x) + j) (low x) lj step (let h = low x in omega arith) (inr (let h = low x in omega arith))
  | inr behind ↦ first_able_from m w m.count (from x) j (j - from x) (low x) lj step (omega arith) (inl (omega arith))
]
