-- Loops over states of any kind that show worlds: a fact of all turns that are left follows without an induction of
-- one's own.
use Rattle.std.proofs.Common.{◌≡◌, ℕ, zero, suc, ◌+◌, ◌<◌, ◌≤◌, arith, subst, le_refl, inl, inr}
use Rattle.xmp_orders.specs.Movers.{Movers, Stepped, run, AllEnded, below}
use Rattle.xmp_orders.specs.Progress.{Progress}
use Rattle.xmp_orders.proofs.Runs.{turn, run_turn, turn_either}

-- What a loop is proved of: `holds` with so many turns left holds where all have ended, and before a turn if behind it.
pub record Left {W X : Type 0} (m : Movers W) (shows : X → W → Type 0) (onward : X → X) (holds : ℕ → X → Type 0) : Type 0 where
  pub end : (d : ℕ) (x : X) (w : W) → shows x w → AllEnded m w → holds d x
  pub back : (d : ℕ) (x : X) → holds d (onward x) → holds (suc d) x

choice_by : {W R X : Type 0} {m : Movers W} {on : W → R → Type 0} {far : W → R → ℕ} {most : ℕ} → Progress m on far most →
    {shows : X → W → Type 0} {onward : X → X} {holds : ℕ → X → Type 0} → Left m shows onward holds →
    ((x : X) (w : W) (k : ℕ) → shows x w → k < m.count → m.answer w k ≡ Stepped → (j : ℕ) × (j < m.count) × (m.answer w j ≡ Stepped) × shows (onward x) (m.moved w j)) →
    (d : ℕ) (x : X) (w : W) (r : R) → shows x w → on w r → most ≤ far w r + d → holds d x
choice_by {m} p l step zero x w r here o enough = elim (p.moves w r o) [
  | inl ended ↦ l.end 0 x w here ended
  | inr can ↦
      let s = p.steps w r can.0 o can.1 can.2 in
      let b = p.bound (m.moved w can.0) s.0 s.1 in
      let rise = s.2 in
      absurd (omega arith)
]
choice_by {m} p {onward} l step (suc d) x w r here o enough = elim (p.moves w r o) [
  | inl ended ↦ l.end (suc d) x w here ended
  | inr can ↦
      let a = step x w can.0 here can.1 can.2 in
      let s = p.steps w r a.0 o a.1 a.2 in
      l.back d x (choice_by p l step d (onward x) (m.moved w a.0) s.0 a.3 s.1 (let rise = s.2 in omega arith))
]

-- a loop that moves, in each turn, one that can move
pub choice_to_end : {W R X : Type 0} {m : Movers W} {on : W → R → Type 0} {far : W → R → ℕ} {most : ℕ} → Progress m on far most →
    {shows : X → W → Type 0} {onward : X → X} {holds : ℕ → X → Type 0} → Left m shows onward holds →
    ((x : X) (w : W) (k : ℕ) → shows x w → k < m.count → m.answer w k ≡ Stepped → (j : ℕ) × (j < m.count) × (m.answer w j ≡ Stepped) × shows (onward x) (m.moved w j)) →
    (x : X) (w : W) (r : R) → shows x w → on w r → holds most x
choice_to_end {most} p l step x w r here o = choice_by p l step most x w r here o (omega arith)

rounds_by : {W R X : Type 0} {m : Movers W} {on : W → R → Type 0} {far : W → R → ℕ} {most : ℕ} → Progress m on far most →
    {shows : X → W → Type 0} {onward : X → X} {holds : ℕ → X → Type 0} → Left m shows onward holds →
    ((x : X) (w : W) → shows x w → shows (onward x) (run m (below m.count) w)) →
    (d : ℕ) (x : X) (w : W) (r : R) → shows x w → on w r → most ≤ far w r + d → holds d x
rounds_by {m} p l step zero x w r here o enough = elim (p.moves w r o) [
  | inl ended ↦ l.end 0 x w here ended
  | inr can ↦
      let s = p.steps w r can.0 o can.1 can.2 in
      let b = p.bound (m.moved w can.0) s.0 s.1 in
      let rise = s.2 in
      absurd (omega arith)
]
rounds_by {W} {m} p {shows} {onward} l step (suc d) x w r here o enough = elim (p.moves w r o) [
  | inl ended ↦ l.end (suc d) x w here ended
  | inr can ↦ elim (turn_either p w r o m.count (le_refl m.count)) [
    | inl still ↦ absurd (still.1 can.0 can.1 can.2)
    | inr gone ↦
        let Q : W → Type 0 = λ v. shows (onward x) v in
        l.back d x (rounds_by p l step d (onward x) (turn m m.count w) gone.0 (subst Q (run_turn m m.count w) (step x w here)) gone.1 (let rise = gone.2 in omega arith))
  ]
]

-- a loop that moves all in each turn
pub rounds_to_end : {W R X : Type 0} {m : Movers W} {on : W → R → Type 0} {far : W → R → ℕ} {most : ℕ} → Progress m on far most →
    {shows : X → W → Type 0} {onward : X → X} {holds : ℕ → X → Type 0} → Left m shows onward holds →
    ((x : X) (w : W) → shows x w → shows (onward x) (run m (below m.count) w)) →
    (x : X) (w : W) (r : R) → shows x w → on w r → holds most x
rounds_to_end {most} p l step x w r here o = rounds_by p l step most x w r here o (omega arith)
