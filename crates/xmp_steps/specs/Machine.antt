-- Machines of any kind that go from stop to stop (this project).
use Rattle.std.specs.Prelude.{◌≡◌, ℕ, zero, suc, Bool, true, false, is_some, Option, Some, None}

-- what a state comes to: it goes on, or stands at a stop, or there is no next state
pub data Next (S P : Type 0) : Type 0 where
  Goes : S → Next S P
  Stops : P → Next S P
  Stuck : Next S P

-- the next stop, where it comes within n steps, and the state that stands there
abbrev pub within : {S P : Type 0} → (S → Next S P) → ℕ → S → Option (P × S)
within next zero s = elim (next s) [ Goes t ↦ None | Stops p ↦ Some (p, s) | Stuck ↦ None ]
within next (suc n) s = elim (next s) [ Goes t ↦ within next n t | Stops p ↦ Some (p, s) | Stuck ↦ None ]

-- the steps to that stop, at most n of them
abbrev pub left : {S P : Type 0} → (S → Next S P) → ℕ → S → ℕ
left next zero s = 0
left next (suc n) s = elim (next s) [ Goes t ↦ suc (left next n t) | Stops p ↦ 0 | Stuck ↦ 0 ]

-- A stop comes: the number of steps to it, which is one alone.
abbrev pub Ends : {S P : Type 0} → (S → Next S P) → S → Type 0
Ends next s = (n : ℕ) × ((is_some (within next n s) ≡ true) × (left next n s ≡ n))

-- from s one or more steps lead to t
pub data Steps {S P : Type 0} (next : S → Next S P) : S → S → Type 0 where
  One : {s t : S} → next s ≡ Goes t → Steps next s t
  More : {s t u : S} → next s ≡ Goes t → Steps next t u → Steps next s u

-- from s some steps, or none, lead to a state of this kind
pub data Comes {S P : Type 0} (next : S → Next S P) (goal : S → Type 0) : S → Type 0 where
  Now : {s : S} → goal s → Comes next goal s
  On : {s t : S} → next s ≡ Goes t → Comes next goal t → Comes next goal s

-- the one state t, as a kind of states
abbrev pub Is : {S : Type 0} → S → S → Type 0
Is t s = s ≡ t

-- ---- a machine that is fed at its stops

-- where a machine goes on from a stop, once it was given what it waits for; at an end it stays
abbrev pub resumed : {S P : Type 0} → Option S → P → Next S P
resumed (Some t) p = Goes t
resumed None p = Stops p

-- what a state comes to, with the stops resumed
abbrev pub fed_of : {S P : Type 0} → (P → S → Option S) → S → Next S P → Next S P
fed_of resume s (Goes t) = Goes t
fed_of resume s (Stops p) = resumed (resume p s) p
fed_of resume s Stuck = Stuck

-- The fed machine: it goes through the stops where it is resumed, and stops at the others, its ends.
abbrev pub fed : {S P : Type 0} → (S → Next S P) → (P → S → Option S) → S → Next S P
fed next resume s = fed_of resume s (next s)

-- The stops of the plain machine on such a run: it is resumed at each but the last, which is an end in a state of this
-- kind.
pub data Stopping {S P : Type 0} (next : S → Next S P) (resume : P → S → Option S) (goal : S → Type 0) : S → Type 0 where
  Last : {s : S} (n : ℕ) (p : P) (t : S) → within next n s ≡ Some (p, t) → resume p t ≡ None → goal t →
      Stopping next resume goal s
  Resumes : {s : S} (n : ℕ) (p : P) (t u : S) → within next n s ≡ Some (p, t) → resume p t ≡ Some u →
      Stopping next resume goal u → Stopping next resume goal s

-- ---- a loop as a machine

-- one turn after another, until a test holds
abbrev pub until : {S : Type 0} → (S → Bool) → (S → S) → S → Next S (Unit {0})
until done turn s = elim (done s) [ true ↦ Stops tt | false ↦ Goes (turn s) ]

-- n turns
abbrev pub turns : {S : Type 0} → (S → S) → ℕ → S → S
turns turn zero s = s
turns turn (suc n) s = turns turn n (turn s)
