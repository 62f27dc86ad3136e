-- While not all have ended some node can move, and a step brings the nodes further.
use Rattle.std.proofs.Common.{◌≡◌, ◌≢◌, ℕ, zero, suc, ◌+◌, ◌-◌, ◌*◌, ◌<◌, ◌≤◌, true, false, List, [], ◌∷◌, ◌++◌, length, refl, sym, ap, arith, subst, ◌∙◌, length-append, eq-or-lt_of_le, le_refl, mul-suc, mul-le-mul_right, true≢false, ◌⊎◌, inl, inr}
use Rattle.std.proofs.lemmas.Bool.{cases_eq, cases_lt, cases_Bool, lt-ltb, le-ltb}
use Rattle.xmp_orders.specs.Movers.{Stepped, NotYet, AlreadyEnded, AllEnded}
use Rattle.xmp_net.specs.Nodes.{Nodes, World, at, peer, ran, received, moved, found, answer, movers}
use Rattle.xmp_net.specs.Traffic.{Traffic, own, Carries, AllCarry, firsts, took, sent, OnCourse, most_steps}
use Rattle.xmp_net.proofs.Course.{at_same, at_other, fed_peer, length_firsts, took_more, ran_course, receive_course}

-- the least of some numbers
least : (f : ℕ → ℕ) (count : ℕ) → (k : ℕ) × (k < suc count) × ((j : ℕ) → j < suc count → f k ≤ f j)
least f zero = (0, omega arith, λ j lj. let e : j ≡ 0 = omega arith in rw e (le_refl (f 0)))
least f (suc c) =
    let rec = least f c in
    elim (cases_lt (f (suc c)) (f rec.0)) [
      | inl less ↦ (suc c, omega arith, λ j lj. elim (eq-or-lt_of_le lj) [ inl e ↦ (let e' : j ≡ suc c = omega arith in rw e' (le_refl (f (suc c)))) | inr below ↦ (let h = rec.2 j (omega arith) in omega arith) ])
      | inr other ↦ (rec.0, omega (arith, rec.1), λ j lj. elim (eq-or-lt_of_le lj) [ inl e ↦ (let e' : j ≡ suc c = omega arith in rw e' other) | inr below ↦ rec.2 j (omega arith) ])
    ]

pub answer_over : {S M : Type 0} (n : Nodes S M) (w : World S M) (k : ℕ) → n.over (w.state k) ≡ true →
    answer n w k ≡ AlreadyEnded
answer_over n w k e = rw e

pub answer_run : {S M : Type 0} (n : Nodes S M) (w : World S M) (k : ℕ) → n.over (w.state k) ≡ false →
    n.count ≤ w.next k → answer n w k ≡ Stepped
answer_run n w k e le = rw (e, le-ltb (w.next k) n.count le)

pub answer_found : {S M : Type 0} (n : Nodes S M) (w : World S M) (k : ℕ) → n.over (w.state k) ≡ false →
    w.next k < n.count → answer n w k ≡ found (w.queue (w.next k) k)
answer_found n w k e lt = rw (e, lt-ltb (w.next k) n.count lt)

pub found_ended : {M : Type 0} (items : List M) → found items ≢ AlreadyEnded
found_ended [] e = cc
found_ended (m ∷ rest) e = cc

pub over_ended : {S M : Type 0} (n : Nodes S M) (w : World S M) (k : ℕ) → answer n w k ≡ AlreadyEnded →
    n.over (w.state k) ≡ true
over_ended n w k e =
    elim (cases_Bool (n.over (w.state k))) [
      | inl over ↦ over
      | inr going ↦ elim (cases_lt (w.next k) n.count) [
        | inl waits ↦ absurd (found_ended (w.queue (w.next k) k) (sym (answer_found n w k going waits) ∙ e))
        | inr free ↦ absurd (let h : Stepped ≡ AlreadyEnded = sym (answer_run n w k going free) ∙ e in (cc))
      ]
    ]

-- a node that is over has run once more than there are exchanges
pub over_late : {S M : Type 0} → (n : Nodes S M) (all : Traffic M) (w : World S M) (runs : ℕ → ℕ) (k : ℕ) →
    Carries n all k → OnCourse n all w runs → k < n.count →
    n.over (w.state k) ≡ true → runs k ≡ suc all.exchanges
over_late n all w runs k carries c lt over =
    elim (eq-or-lt_of_le (c.within k lt)) [
      | inl e ↦ e
      | inr less ↦ absurd (true≢false (sym over ∙ ap n.over (c.state k lt) ∙ carries.goes (runs k) (w.next k) (omega arith) (c.below k lt)))
    ]

pub going_early : {S M : Type 0} → (n : Nodes S M) (all : Traffic M) (w : World S M) (runs : ℕ → ℕ) (k : ℕ) →
    OnCourse n all w runs → k < n.count →
    n.over (w.state k) ≡ false → runs k ≤ all.exchanges
going_early n all w runs k c lt going = elim (eq-or-lt_of_le (c.within k lt)) [ inl e ↦ absurd (true≢false (sym (c.ended k lt e).1 ∙ going)) | inr less ↦ omega arith ]

-- what a node with the fewest runs awaits is there
least_found : {S M : Type 0} → (n : Nodes S M) (all : Traffic M) (w : World S M) (runs : ℕ → ℕ) (k : ℕ) →
    OnCourse n all w runs → k < n.count → w.next k < n.count →
    runs k ≤ all.exchanges → runs k ≤ runs (w.next k) → (items : List M) → w.queue (w.next k) k ≡ items →
    found items ≡ Stepped
least_found n all w runs k c lt waits early fewest [] e =
    let p : ℕ = w.next k in
    let some : 0 < runs k = c.awaits k lt waits in
    let one = took_more all.exchanges (runs k - 1) k p (omega arith) (c.other k lt) in
    let r : suc (runs k - 1) ≡ runs k = omega arith in
    let few : took all.exchanges (runs k) p p ≡ runs k - 1 = rw r at one.0 in
    let q = ap length (c.queue p k waits lt (c.other k lt)) in
    absurd (omega (
      arith,
      few,
      length-append (firsts (λ t. all.message t p k) (took all.exchanges (runs k) p p)) (w.queue p k),
      ap length e,
      length_firsts (λ t. all.message t p k) (took all.exchanges (runs k) p p),
      length_firsts (λ t. all.message t p k) (sent all.exchanges (runs p)),
      q,
    ))
least_found n all w runs k c lt waits early fewest (m ∷ rest) e = refl

-- While not all have ended, some node can move.
some_node : {S M : Type 0} → (n : Nodes S M) (all : Traffic M) → AllCarry n all → (w : World S M) (runs : ℕ → ℕ) →
    OnCourse n all w runs → 0 < n.count →
    AllEnded (movers n) w ⊎ ((k : ℕ) × (k < n.count) × (answer n w k ≡ Stepped))
some_node n all carry w runs c some =
    let l = least runs (n.count - 1) in
    let k : ℕ = l.0 in
    let lt : k < n.count = omega (arith, l.1) in
    elim (cases_Bool (n.over (w.state k))) [
      | inl over ↦
          let late = over_late n all w runs k (carry k lt) c lt over in
          inl (λ j lj. answer_over n w j (c.ended j lj (let h = l.2 j (omega arith) in let h' = c.within j lj in omega (arith, late))).1)
      | inr going ↦
          let early = going_early n all w runs k c lt going in
          inr (
            k,
            lt,
            elim (cases_lt (w.next k) n.count) [
              | inl waits ↦ answer_found n w k going waits ∙ least_found n all w runs k c lt waits early (l.2 (w.next k) (omega arith)) (w.queue (w.next k) k) refl
              | inr free ↦ answer_run n w k going free
            ],
          )
    ]

pub some_moves : {S M : Type 0} → (n : Nodes S M) (all : Traffic M) → AllCarry n all → (w : World S M) (runs : ℕ → ℕ) →
    OnCourse n all w runs →
    AllEnded (movers n) w ⊎ ((k : ℕ) × (k < n.count) × (answer n w k ≡ Stepped))
some_moves n all carry w runs c = elim (cases_lt 0 n.count) [
  | inl some ↦ some_node n all carry w runs c some
  | inr none ↦ inl (λ k lt. absurd (omega arith))
]

empty : {A : Type 0} (xs : List A) → length xs ≡ 0 → xs ≡ []
empty [] e = refl
empty (x ∷ xs) e = absurd (omega arith)

took_all : (ex k i : ℕ) → i ≢ k → took ex (suc ex) (peer k 0) i ≡ ex
took_all ex k i ne = grind arith

-- the end of every run that ends
pub one_end : {S M : Type 0} → (n : Nodes S M) (all : Traffic M) → AllCarry n all → (w : World S M) (runs : ℕ → ℕ) →
    OnCourse n all w runs → AllEnded (movers n) w →
    ((k : ℕ) → k < n.count → w.state k ≡ own n all k (suc all.exchanges) 0) × ((k : ℕ) → k < n.count → w.next k ≡ peer k 0) × ((i k : ℕ) → i < n.count → k < n.count → i ≢ k → w.queue i k ≡ [])
one_end n all carry w runs c ended = (
  (λ k lt.
      let late = over_late n all w runs k (carry k lt) c lt (over_ended n w k (ended k lt)) in
      c.state k lt ∙ ap (λ r. own n all k r (w.next k)) late ∙ ap (own n all k (suc all.exchanges)) (c.ended k lt late).0
      ∙ fed_peer n all k all.exchanges 0 (n.go (own n all k all.exchanges n.count))),
  (λ k lt. (c.ended k lt (over_late n all w runs k (carry k lt) c lt (over_ended n w k (ended k lt)))).0),
  (λ i k li lk ne.
      let at-k = over_late n all w runs k (carry k lk) c lk (over_ended n w k (ended k lk)) in
      let at-i = over_late n all w runs i (carry i li) c li (over_ended n w i (ended i li)) in
      let e : firsts (λ t. all.message t i k) all.exchanges ++ w.queue i k ≡ firsts (λ t. all.message t i k) (sent all.exchanges (suc all.exchanges)) =
      rw (at-k, at-i, (c.ended k lk at-k).0, took_all all.exchanges k i ne) at (c.queue i k li lk ne) in
      empty (w.queue i k) (omega (
        arith,
        length-append (firsts (λ t. all.message t i k) all.exchanges) (w.queue i k),
        ap length e,
        length_firsts (λ t. all.message t i k) all.exchanges,
        length_firsts (λ t. all.message t i k) (sent all.exchanges (suc all.exchanges)),
      ))),
)

-- a move that comes to nothing changes nothing
found_nothing : {S M : Type 0} (n : Nodes S M) (w : World S M) (k : ℕ) (items : List M) → found items ≢ Stepped →
    received n w k items ≡ w
found_nothing n w k [] no-step = refl
found_nothing n w k (m ∷ rest) no-step = absurd (no-step refl)

pub stays : {S M : Type 0} (n : Nodes S M) (w : World S M) (k : ℕ) → answer n w k ≢ Stepped → moved n w k ≡ w
stays n w k no-step =
    elim (cases_Bool (n.over (w.state k))) [
      | inl over ↦ rw over
      | inr going ↦ elim (cases_lt (w.next k) n.count) [
        | inl waits ↦ rw (going, lt-ltb (w.next k) n.count waits) (found_nothing n w k (w.queue (w.next k) k) (λ e. no-step (answer_found n w k going waits ∙ e)))
        | inr free ↦ absurd (no-step (answer_run n w k going free))
      ]
    ]

-- how far the nodes have come
abbrev pub sum_below : (ℕ → ℕ) → ℕ → ℕ
sum_below f zero = 0
sum_below f (suc c) = sum_below f c + f c

abbrev pub far : {S M : Type 0} → Nodes S M → World S M → (ℕ → ℕ) → ℕ → ℕ
far n w runs k = runs k * suc n.count + w.next k

sum_same : (f g : ℕ → ℕ) (c : ℕ) → ((j : ℕ) → j < c → g j ≡ f j) → sum_below g c ≡ sum_below f c
sum_same f g zero same = refl
sum_same f g (suc c) same = let h = sum_same f g c (λ j lj. same j (omega arith)) in let h' = same c (omega arith) in omega arith

sum_rises : (f g : ℕ → ℕ) (k c : ℕ) → k < c → f k < g k → ((j : ℕ) → j ≢ k → g j ≡ f j) → sum_below f c < sum_below g c
sum_rises f g k zero lt more same = absurd (omega arith)
sum_rises f g k (suc c) lt more same = elim (cases_eq c k) [
  | inl e ↦ (let P : ℕ → Type 0 = λ x. sum_below f x + f x < sum_below g x + g x in
      let h = sum_same f g k (λ j lj. same j (omega arith)) in subst P (sym e) (omega arith))
  | inr ne ↦ let h = sum_rises f g k c (omega arith) more same in let h' = same c ne in omega arith
]

pub sum_bound : (f : ℕ → ℕ) (c b : ℕ) → ((j : ℕ) → j < c → f j ≤ b) → sum_below f c ≤ c * b
sum_bound f zero b le = omega arith
sum_bound f (suc c) b le = let h = sum_bound f c b (λ j lj. le j (omega arith)) in let h' = le c (omega arith) in omega arith

abbrev pub effort : {S M : Type 0} → Nodes S M → World S M → (ℕ → ℕ) → ℕ
effort n w runs = sum_below (far n w runs) n.count

ran_far : {S M : Type 0} → (n : Nodes S M) (w : World S M) (runs : ℕ → ℕ) (k : ℕ) → k < n.count → w.next k ≡ n.count →
    effort n w runs < effort n (ran n w k) (at runs k (suc (runs k)))
ran_far n w runs k lt next =
    sum_rises (far n w runs) (far n (ran n w k) (at runs k (suc (runs k)))) k n.count lt
    (rw (at_same runs k (suc (runs k)) k refl, at_same w.next k (peer k 0) k refl, next) (omega (arith, mul-suc (suc n.count) (runs k))))
    (λ j ne. rw (at_other runs k (suc (runs k)) j ne, at_other w.next k (peer k 0) j ne))

received_far : {S M : Type 0} → (n : Nodes S M) (w : World S M) (runs : ℕ → ℕ) (k : ℕ) (m : M) (rest : List M) →
    k < n.count →
    effort n w runs < effort n (received n w k (m ∷ rest)) runs
received_far n w runs k m rest lt =
    sum_rises (far n w runs) (far n (received n w k (m ∷ rest)) runs) k n.count lt
    (rw (at_same w.next k (peer k (suc (w.next k))) k refl) (let h : w.next k < peer k (suc (w.next k)) = grind arith in omega arith))
    (λ j ne. rw (at_other w.next k (peer k (suc (w.next k))) j ne))

receive_steps : {S M : Type 0} → (n : Nodes S M) (all : Traffic M) (w : World S M) (runs : ℕ → ℕ) (k : ℕ) →
    OnCourse n all w runs → k < n.count → w.next k < n.count →
    n.over (w.state k) ≡ false → (items : List M) → w.queue (w.next k) k ≡ items → found items ≡ Stepped →
    OnCourse n all (received n w k items) runs × (effort n w runs < effort n (received n w k items) runs)
receive_steps n all w runs k c lt waits going [] e f = absurd (let h : NotYet ≡ Stepped = f in (cc))
receive_steps n all w runs k c lt waits going (m ∷ rest) e f = (receive_course n all w runs k c lt waits going (m ∷ rest) e, received_far n w runs k m rest lt)

-- a step brings the nodes further
pub stepped : {S M : Type 0} → (n : Nodes S M) (all : Traffic M) (w : World S M) (runs : ℕ → ℕ) (k : ℕ) →
    Carries n all k → OnCourse n all w runs → k < n.count →
    answer n w k ≡ Stepped →
    (runs' : ℕ → ℕ) × OnCourse n all (moved n w k) runs' × (effort n w runs < effort n (moved n w k) runs')
stepped {S} {M} n all w runs k carries c lt is =
    elim (cases_Bool (n.over (w.state k))) [
      | inl over ↦ absurd (let h : AlreadyEnded ≡ Stepped = sym (answer_over n w k over) ∙ is in (cc))
      | inr going ↦ elim (cases_lt (w.next k) n.count) [
        | inl waits ↦
            let h = receive_steps n all w runs k c lt waits going (w.queue (w.next k) k) refl (sym (answer_found n w k going waits) ∙ is) in
            rw (going, lt-ltb (w.next k) n.count waits) (runs, h.0, h.1)
        | inr free ↦ rw (going, le-ltb (w.next k) n.count free)
            (at runs k (suc (runs k)), ran_course n all w runs k carries c lt free going, ran_far n w runs k lt (omega (arith, c.below k lt)))
      ]
    ]

-- and no further than that
pub effort_most : {S M : Type 0} → (n : Nodes S M) (all : Traffic M) (w : World S M) (runs : ℕ → ℕ) →
    OnCourse n all w runs → effort n w runs ≤ most_steps n all
effort_most n all w runs c =
    sum_bound (far n w runs) n.count (suc all.exchanges * suc n.count + n.count)
    (λ j lj. let h = mul-le-mul_right (suc n.count) (c.within j lj) in let h' = c.below j lj in omega arith)
