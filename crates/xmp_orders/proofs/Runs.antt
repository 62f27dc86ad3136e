-- Things that make progress come to their end in lockstep, and by every choice of such that can move.
use Rattle.std.proofs.Common.{◌≡◌, ◌≢◌, ℕ, zero, suc, ◌+◌, ◌<◌, ◌≤◌, List, [], ◌∷◌, ◌++◌, length, refl, sym, ap, arith, subst, ◌∙◌, All, eq-or-lt_of_le, le_refl, lt_trans, ◌⊎◌, inl, inr}
use Rattle.xmp_orders.specs.Movers.{Moved, Movers, Stepped, NotYet, AlreadyEnded, run, AreMovers, AllEnded, AllStep, below, rounds}
use Rattle.xmp_orders.specs.Choices.{Choice, PicksSteps, picked, EndsBy}
use Rattle.xmp_orders.specs.Progress.{Progress, AllEndFrom}

pub is_step : (a : Moved) → (a ≡ Stepped) ⊎ (a ≢ Stepped)
is_step Stepped = inl refl
is_step NotYet = inr (λ e. cc)
is_step AlreadyEnded = inr (λ e. cc)

-- a run keeps what a world keeps
pub run_on : {W R : Type 0} {m : Movers W} {on : W → R → Type 0} {far : W → R → ℕ} {most : ℕ} → Progress m on far most →
    (ks : List ℕ) → AreMovers m ks → (w : W) (r : R) → on w r → (z : R) × on (run m ks w) z
run_on p [] ok w r c = (r, c)
run_on {W} {R} {m} {on} p (k ∷ ks) ok w r c =
    let lk : k < m.count = ok 0 0 (omega arith) in
    let rest : AreMovers m ks = λ i d li. ok (suc i) d (omega arith) in
    elim (is_step (m.answer w k)) [
      | inl step ↦ let s = p.steps w r k c lk step in run_on p ks rest (m.moved w k) s.0 s.1
      | inr none ↦
          let Q : W → Type 0 = λ v. (z : R) × on (run m ks v) z in
          subst Q (sym (p.stays w k none)) (run_on p ks rest w r c)
    ]

-- a run of steps leads as much further
pub steps_rise : {W R : Type 0} {m : Movers W} {on : W → R → Type 0} {far : W → R → ℕ} {most : ℕ} → Progress m on far most →
    (ks : List ℕ) → AreMovers m ks → (w : W) (r : R) → on w r → AllStep m ks w →
    (z : R) × on (run m ks w) z × (far w r + length ks ≤ far (run m ks w) z)
steps_rise p [] ok w r c steps = (r, c, omega arith)
steps_rise {m} p (k ∷ ks) ok w r c steps =
    let s = p.steps w r k c (ok 0 0 (omega arith)) steps.0 in
    let rest = steps_rise p ks (λ i d li. ok (suc i) d (omega arith)) (m.moved w k) s.0 s.1 steps.1 in
    (rest.0, rest.1, let a = s.2 in let b = rest.2 in omega arith)

pub few_steps : {W R : Type 0} {m : Movers W} {on : W → R → Type 0} {far : W → R → ℕ} {most : ℕ} → Progress m on far most →
    (ks : List ℕ) → AreMovers m ks → (w : W) (r : R) → on w r → AllStep m ks w → length ks ≤ most
few_steps {m} p ks ok w r c steps =
    let h = steps_rise p ks ok w r c steps in
    let b = p.bound (run m ks w) h.0 h.1 in
    let rise = h.2 in
    omega arith

-- ---- lockstep

run_append : {W : Type 0} (m : Movers W) (ks ls : List ℕ) (w : W) → run m (ks ++ ls) w ≡ run m ls (run m ks w)
run_append m [] ls w = refl
run_append m (k ∷ ks) ls w = run_append m ks ls (m.moved w k)

-- those below c move, each once, in the order of their numbers
abbrev pub turn : {W : Type 0} → Movers W → ℕ → W → W
turn m zero w = w
turn m (suc c) w = m.moved (turn m c w) c

abbrev turns : {W : Type 0} → Movers W → ℕ → W → W
turns m zero w = w
turns m (suc d) w = turns m d (turn m m.count w)

pub run_turn : {W : Type 0} (m : Movers W) (c : ℕ) (w : W) → run m (below c) w ≡ turn m c w
run_turn m zero w = refl
run_turn m (suc c) w = run_append m (below c) (c ∷ []) w ∙ ap (λ v. m.moved v c) (run_turn m c w)

run_rounds : {W : Type 0} (m : Movers W) (d : ℕ) (w : W) → run m (rounds m.count d) w ≡ turns m d w
run_rounds m zero w = refl
run_rounds m (suc d) w =
    run_append m (below m.count) (rounds m.count d) w ∙ ap (run m (rounds m.count d)) (run_turn m m.count w)
    ∙ run_rounds m d (turn m m.count w)

-- the first of a turn make no step, and then none of them can, or lead further
pub turn_either : {W R : Type 0} {m : Movers W} {on : W → R → Type 0} {far : W → R → ℕ} {most : ℕ} → Progress m on far most →
    (w : W) (r : R) → on w r → (c : ℕ) → c ≤ m.count →
    ((turn m c w ≡ w) × ((k : ℕ) → k < c → m.answer w k ≢ Stepped)) ⊎ ((z : R) × on (turn m c w) z × (far w r < far (turn m c w) z))
turn_either p w r o zero le = inl (refl, λ k lt. absurd (omega arith))
turn_either {W} {R} {m} {on} {far} p w r o (suc c) le = elim (turn_either p w r o c (omega arith)) [
  | inl still ↦
      let Q : W → Type 0 = λ v. ((m.moved v c ≡ w) × ((k : ℕ) → k < suc c → m.answer w k ≢ Stepped)) ⊎ ((z : R) × on (m.moved v c) z × (far w r < far (m.moved v c) z)) in
      subst Q (sym still.0) (elim (is_step (m.answer w c)) [
        | inl step ↦ inr (p.steps w r c o le step)
        | inr none ↦ inl (
          p.stays w c none,
          λ k lt. elim (eq-or-lt_of_le lt) [
            | inl e ↦ (let e' : k ≡ c = omega arith in let P : ℕ → Type 0 = λ x. m.answer w x ≢ Stepped in subst P (sym e') none)
            | inr less ↦ still.1 k (omega arith)
          ],
        )
      ])
  | inr gone ↦ elim (is_step (m.answer (turn m c w) c)) [
    | inl step ↦ let s = p.steps (turn m c w) gone.0 c gone.1 le step in inr (s.0, s.1, lt_trans gone.2 s.2)
    | inr none ↦
        let Q : W → Type 0 = λ v. (z : R) × on v z × (far w r < far v z) in
        inr (subst Q (sym (p.stays (turn m c w) c none)) gone)
  ]
]

turn_ended : {W R : Type 0} {m : Movers W} {on : W → R → Type 0} {far : W → R → ℕ} {most : ℕ} → Progress m on far most →
    (w : W) → AllEnded m w → (c : ℕ) → c ≤ m.count → turn m c w ≡ w
turn_ended p w ended zero le = refl
turn_ended {m} p w ended (suc c) le =
    ap (λ v. m.moved v c) (turn_ended p w ended c (omega arith)) ∙ p.stays w c (λ step. let h : AlreadyEnded ≡ Stepped = sym (ended c le) ∙ step in (cc))

turns_ended : {W R : Type 0} {m : Movers W} {on : W → R → Type 0} {far : W → R → ℕ} {most : ℕ} → Progress m on far most →
    (w : W) → AllEnded m w → (d : ℕ) → turns m d w ≡ w
turns_ended p w ended zero = refl
turns_ended {m} p w ended (suc d) = ap (turns m d) (turn_ended p w ended m.count (le_refl m.count)) ∙ turns_ended p w ended d

turns_end : {W R : Type 0} {m : Movers W} {on : W → R → Type 0} {far : W → R → ℕ} {most : ℕ} → Progress m on far most →
    (d : ℕ) (w : W) (r : R) → on w r → most ≤ far w r + d → AllEnded m (turns m d w)
turns_end {m} p zero w r o enough = elim (p.moves w r o) [
  | inl ended ↦ ended
  | inr can ↦
      let s = p.steps w r can.0 o can.1 can.2 in
      let b = p.bound (m.moved w can.0) s.0 s.1 in
      let rise = s.2 in
      absurd (omega arith)
]
turns_end {W} {m} p (suc d) w r o enough = elim (p.moves w r o) [
  | inl ended ↦ (let Q : W → Type 0 = λ v. AllEnded m v in subst Q (sym (turns_ended p w ended (suc d))) ended)
  | inr can ↦ elim (turn_either p w r o m.count (le_refl m.count)) [
    | inl still ↦ absurd (still.1 can.0 can.1 can.2)
    | inr gone ↦ turns_end p d (turn m m.count w) gone.0 gone.1 (let rise = gone.2 in omega arith)
  ]
]

lockstep_ends : {W R : Type 0} {m : Movers W} {on : W → R → Type 0} {far : W → R → ℕ} {most : ℕ} → Progress m on far most →
    (w : W) (r : R) → on w r → (d : ℕ) × (d ≤ most) × AllEnded m (run m (rounds m.count d) w)
lockstep_ends {W} {m} {most} p w r o =
    let Q : W → Type 0 = λ v. AllEnded m v in
    (most, le_refl most, subst Q (sym (run_rounds m most w)) (turns_end p most w r o (omega arith)))

-- ---- choices

all_cons : (count k : ℕ) (ks : List ℕ) → k < count → All (λ j. j < count) ks → All (λ j. j < count) (k ∷ ks)
all_cons count k ks lt rest zero d li = lt
all_cons count k ks lt rest (suc i) d li = rest i d (omega arith)

-- these are picked from a world on, and then all have ended
record Picks {W : Type 0} (m : Movers W) (c : Choice W) (x : ℕ) (w : W) (ks : List ℕ) : Type 0 where
  movers : AreMovers m ks
  picked : picked m c (length ks) x w ≡ ks
  steps : AllStep m ks w
  ended : AllEnded m (run m ks w)

picks_end : {W R : Type 0} {m : Movers W} {on : W → R → Type 0} {far : W → R → ℕ} {most : ℕ} → Progress m on far most →
    (c : Choice W) → PicksSteps m c → (d x : ℕ) (w : W) (r : R) → on w r → most ≤ far w r + d → (ks : List ℕ) × Picks m c x w ks
picks_end {m} p c able zero x w r o enough = elim (p.moves w r o) [
  | inl ended ↦ ([], record { movers = λ i d li. absurd (omega arith); picked = refl; steps = tt; ended = ended })
  | inr can ↦
      let s = p.steps w r can.0 o can.1 can.2 in
      let b = p.bound (m.moved w can.0) s.0 s.1 in
      let rise = s.2 in
      absurd (omega arith)
]
picks_end {m} p c able (suc d) x w r o enough = elim (p.moves w r o) [
  | inl ended ↦ ([], record { movers = λ i d li. absurd (omega arith); picked = refl; steps = tt; ended = ended })
  | inr can ↦
      let y : ℕ = c.onward x in
      let k : ℕ = c.pick y w in
      let here = able y w can.0 can.1 can.2 in
      let s = p.steps w r k o here.0 here.1 in
      let h = picks_end p c able d y (m.moved w k) s.0 s.1 (let rise = s.2 in omega arith) in (
        k ∷ h.0,
        record {
          movers = all_cons m.count k h.0 here.0 h.1.movers;
          picked = ap (λ ks. k ∷ ks) h.1.picked;
          steps = (here.1, h.1.steps);
          ended = h.1.ended;
        },
      )
]

choices_end : {W R : Type 0} {m : Movers W} {on : W → R → Type 0} {far : W → R → ℕ} {most : ℕ} → Progress m on far most →
    (w : W) (r : R) → on w r → (c : Choice W) → PicksSteps m c → (x : ℕ) → (ks : List ℕ) × EndsBy m most c x w ks
choices_end {most} p w r o c able x =
    let h = picks_end p c able most x w r o (omega arith) in (
      h.0,
      record {
        movers = h.1.movers;
        picked = h.1.picked;
        steps = h.1.steps;
        few = few_steps p h.0 h.1.movers w r o h.1.steps;
        ended = h.1.ended;
      },
    )

-- What follows of a world, in every order.
pub all_end : {W R : Type 0} {m : Movers W} {on : W → R → Type 0} {far : W → R → ℕ} {most : ℕ} → Progress m on far most →
    (w : W) (r : R) → on w r → AllEndFrom m most w
all_end {m} p w r o = record {
  moves = λ ks ok. let h = run_on p ks ok w r o in p.moves (run m ks w) h.0 h.1;
  few = λ ks ok steps. few_steps p ks ok w r o steps;
  lockstep = lockstep_ends p w r o;
  chosen = choices_end p w r o;
}
