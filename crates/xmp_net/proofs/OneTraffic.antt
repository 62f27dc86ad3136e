-- Nodes carry one traffic alone.
use Rattle.std.proofs.Common.{◌≡◌, ◌≢◌, ℕ, zero, suc, ◌<◌, ◌≤◌, true, refl, sym, ap, arith, ◌∙◌, subst, true≢false, inl, inr}
use Rattle.std.proofs.lemmas.Bool.{cases_eq, cases_lt}
use Rattle.xmp_net.specs.Nodes.{Nodes}
use Rattle.xmp_net.specs.Traffic.{Traffic, fed, own, AllCarry, IsSameTraffic}
use Rattle.xmp_net.proofs.Course.{fed_step}

pub fed_itself : {S M : Type 0} (n : Nodes S M) (all : Traffic M) (k t i : ℕ) (s : S) → i ≡ k →
    fed n all k t (suc i) s ≡ fed n all k t i s
fed_itself n all k t i s e = grind arith

-- the same messages from the peers below i leave the same state
fed_same : {S M : Type 0} (n : Nodes S M) (all other : Traffic M) (k t i : ℕ) (s : S) →
    ((p : ℕ) → p < i → p ≢ k → all.message t p k ≡ other.message t p k) → fed n all k t i s ≡ fed n other k t i s
fed_same n all other k t zero s same = refl
fed_same n all other k t (suc i) s same =
    let before = fed_same n all other k t i s (λ p lt ne. same p (omega arith) ne) in
    elim (cases_eq i k) [
      | inl e ↦ fed_itself n all k t i s e ∙ before ∙ sym (fed_itself n other k t i s e)
      | inr ne ↦
          fed_step n all k t i s ne ∙ ap (λ x. n.into x i (all.message t i k)) before ∙ ap (n.into (fed n other k t i s) i) (same i (omega arith) ne)
          ∙ sym (fed_step n other k t i s ne)
    ]

-- up to an exchange that both have, the nodes stand alike and say the same
record Alike {S M : Type 0} (n : Nodes S M) (all other : Traffic M) (t : ℕ) : Type 0 where
  stands : (k : ℕ) → k < n.count → own n all k t n.count ≡ own n other k t n.count
  says : (r i j : ℕ) → r < t → i < n.count → j < n.count → i ≢ j → all.message r i j ≡ other.message r i j

alike_step : {S M : Type 0} (n : Nodes S M) (all other : Traffic M) → AllCarry n all → AllCarry n other → (t : ℕ) →
    t < all.exchanges → t < other.exchanges → Alike n all other t → Alike n all other (suc t)
alike_step {S} {M} n all other carry carries t lt less a =
    let says : (i j : ℕ) → i < n.count → j < n.count → i ≢ j → all.message t i j ≡ other.message t i j = λ i j li lj ne.
    sym ((carry i li).sends t j lt lj (λ e. ne (sym e))) ∙ ap (λ s. n.out (n.go s) j) (a.stands i li) ∙ (carries i li).sends t j less lj (λ e. ne (sym e)) in
    record {
      stands = λ k lk. fed_same n all other k t n.count (n.go (own n all k t n.count)) (λ p lp ne. says p k lp lk ne)
          ∙ ap (λ s. fed n other k t n.count (n.go s)) (a.stands k lk);
      says = λ r i j lr li lj ne. elim (cases_eq r t) [
        | inl e ↦ (let P : ℕ → Type 0 = λ x. all.message x i j ≡ other.message x i j in subst P (sym e) (says i j li lj ne))
        | inr nr ↦ a.says r i j (omega arith) li lj ne
      ];
    }

alike : {S M : Type 0} (n : Nodes S M) (all other : Traffic M) → AllCarry n all → AllCarry n other → (t : ℕ) →
    t ≤ all.exchanges → t ≤ other.exchanges → Alike n all other t
alike n all other carry carries zero le less = record { stands = λ k lk. refl; says = λ r i j lr. absurd (omega arith) }
alike n all other carry carries (suc t) le less = alike_step n all other carry carries t le less (alike n all other carry carries t (omega arith) (omega arith))

-- the one traffic doesn't end before the other
no_longer : {S M : Type 0} (n : Nodes S M) (all other : Traffic M) → 0 < n.count → AllCarry n all → AllCarry n other →
    all.exchanges < other.exchanges → ⊥
no_longer {S} {M} n all other some carry carries less =
    let t : ℕ = all.exchanges in
    let a = alike n all other carry carries t (omega arith) (omega arith) in
    true≢false (sym (carry 0 some).ends ∙ ap (λ s. n.over (n.go s)) (a.stands 0 some) ∙ (carries 0 some).goes (suc t) 0 less (omega arith))

pub one_traffic : {S M : Type 0} (n : Nodes S M) → 0 < n.count → (all other : Traffic M) → AllCarry n all →
    AllCarry n other → IsSameTraffic n all other
one_traffic {S} {M} n some all other carry carries =
    let same : all.exchanges ≡ other.exchanges = elim (cases_lt all.exchanges other.exchanges) [
      | inl less ↦ absurd (no_longer n all other some carry carries less)
      | inr back ↦ elim (cases_lt other.exchanges all.exchanges) [
        | inl less ↦ absurd (no_longer n other all some carries carry less)
        | inr forth ↦ omega arith
      ]
    ] in
    record { exchanges = same; message = (alike n all other carry carries all.exchanges (omega arith) (omega arith)).says }

own_same : {S M : Type 0} (n : Nodes S M) (all other : Traffic M) (k t i : ℕ) → k < n.count → i ≤ n.count →
    t ≤ suc all.exchanges → (t ≡ suc all.exchanges → i ≡ 0) → IsSameTraffic n all other →
    own n all k t i ≡ own n other k t i
own_same n all other k zero i lk li lt end same = refl
own_same n all other k (suc t) i lk li lt end same =
    fed_same n all other k t i (n.go (own n all k t n.count)) (λ p lp ne. same.message t p k (elim (cases_lt t all.exchanges) [ inl less ↦ less | inr back ↦ absurd (let z : i ≡ 0 = end (omega arith) in omega arith) ]) (omega arith) lk ne)
    ∙ ap (λ s. fed n other k t i (n.go s)) (own_same n all other k t n.count lk (omega arith) (omega arith) (λ e. absurd (omega arith)) same)

-- nodes that carry a traffic carry one that is the same between nodes
pub same_carried : {S M : Type 0} (n : Nodes S M) (all other : Traffic M) → AllCarry n all → IsSameTraffic n all other →
    AllCarry n other
same_carried {S} {M} n all other carry same k lk =
    let c = carry k lk in
    let ex = same.exchanges in
    record {
      goes = λ t i lt li. ap n.over (sym (own_same n all other k t i lk li (omega arith) (λ e. absurd (omega arith)) same)) ∙ c.goes t i (omega arith) li;
      sends = λ t j lt lj ne.
          ap (λ s. n.out s j) (sym (own_same n all other k (suc t) 0 lk (omega arith) (omega arith) (λ e. refl) same)) ∙ c.sends t j (omega arith) lj ne ∙ same.message t k j (omega arith) lk lj (λ e. ne (sym e));
      ends = (let P : ℕ → Type 0 = λ x. n.over (own n other k (suc x) 0) ≡ true in
          subst P ex (ap n.over (sym (own_same n all other k (suc all.exchanges) 0 lk (omega arith) (omega arith) (λ e. refl) same)) ∙ c.ends));
    }
