-- Orders by a choice (this project).
use Rattle.std.specs.Prelude.{◌≡◌, ℕ, zero, suc, ◌<◌, ◌≤◌, Bool, true, false, nat_lt, if◌then◌else◌, List, [], ◌∷◌, length}
use Rattle.xmp_orders.specs.Movers.{Movers, Stepped, NotYet, AlreadyEnded, run, AreMovers, AllEnded, AllStep}

-- Which one moves next: a function of the world and of a number, which goes on before each move.
pub record Choice (W : Type 0) : Type 0 where
  pub onward : ℕ → ℕ
  pub pick : ℕ → W → ℕ

-- it picks one that can move while one can
abbrev pub PicksSteps : {W : Type 0} → Movers W → Choice W → Type 0
PicksSteps {W} m c =
    (x : ℕ) (w : W) (k : ℕ) → k < m.count → m.answer w k ≡ Stepped →
    (c.pick x w < m.count) × (m.answer w (c.pick x w) ≡ Stepped)

-- the ones of d moves by a choice, from number x
abbrev pub picked : {W : Type 0} → Movers W → Choice W → ℕ → ℕ → W → List ℕ
picked m c zero x w = []
picked m c (suc d) x w =
    let k = c.pick (c.onward x) w in
    k ∷ picked m c d (c.onward x) (m.moved w k)

-- k can move
abbrev pub can_move : {W : Type 0} → Movers W → W → ℕ → Bool
can_move m w k = elim (m.answer w k) [ Stepped ↦ true | NotYet ↦ false | AlreadyEnded ↦ false ]

-- the one behind k, counted round
abbrev pub round : ℕ → ℕ → ℕ
round count k = if nat_lt (suc k) count then suc k else 0

-- the first that can move of so many from k on, counted round
abbrev pub first_from : {W : Type 0} → Movers W → W → ℕ → ℕ → ℕ
first_from m w zero k = k
first_from m w (suc many) k = if can_move m w k then k else first_from m w many (round m.count k)

-- the choice of the first that can move, from one on that the number gives
abbrev pub first_able : {W : Type 0} → Movers W → (ℕ → ℕ) → (ℕ → ℕ) → Choice W
first_able m from onward = record { onward = onward; pick = λ x w. first_from m w m.count (from x) }

-- that it picks one that can move, whatever the numbers
abbrev pub FirstsPickSteps : {W : Type 0} → Movers W → Type 0
FirstsPickSteps m =
    (from onward : ℕ → ℕ) → ((x : ℕ) → from x < m.count) → PicksSteps m (first_able m from onward)

-- from a world and a number these are picked by a choice, at most so many; each of them steps, and then all have ended
pub record EndsBy {W : Type 0} (m : Movers W) (most : ℕ) (c : Choice W) (x : ℕ) (w : W) (ks : List ℕ) : Type 0 where
  pub movers : AreMovers m ks
  pub picked : picked m c (length ks) x w ≡ ks
  pub steps : AllStep m ks w
  pub few : length ks ≤ most
  pub ended : AllEnded m (run m ks w)
