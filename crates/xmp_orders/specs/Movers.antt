-- Things that move one at a time, in any order (this project).
use Rattle.std.specs.Prelude.{◌≡◌, ℕ, zero, suc, ◌<◌, List, [], ◌∷◌, ◌++◌, All}

-- what one move came to
pub data Moved : Type 0 where
  Stepped : Moved
  NotYet : Moved
  AlreadyEnded : Moved

-- So many things in a world: what a move of one makes of the world, and what it comes to.
pub record Movers (W : Type 0) : Type 0 where
  pub count : ℕ
  pub moved : W → ℕ → W
  pub answer : W → ℕ → Moved

-- a run: the chosen ones move in turn
abbrev pub run : {W : Type 0} → Movers W → List ℕ → W → W
run m [] w = w
run m (k ∷ ks) w = run m ks (m.moved w k)

-- each chosen number is one of them
abbrev pub AreMovers : {W : Type 0} → Movers W → List ℕ → Type 0
AreMovers m ks = All (λ k. k < m.count) ks

-- none has a move left
abbrev pub AllEnded : {W : Type 0} → Movers W → W → Type 0
AllEnded m w = (k : ℕ) → k < m.count → m.answer w k ≡ AlreadyEnded

-- some one can move
abbrev pub SomeCanMove : {W : Type 0} → Movers W → W → Type 0
SomeCanMove m w = (k : ℕ) × (k < m.count) × (m.answer w k ≡ Stepped)

-- each move of a run is a step
abbrev pub AllStep : {W : Type 0} → Movers W → List ℕ → W → Type 0
AllStep m [] w = Unit {0}
AllStep m (k ∷ ks) w = (m.answer w k ≡ Stepped) × AllStep m ks (m.moved w k)

-- the numbers below c, in order
abbrev pub below : ℕ → List ℕ
below zero = []
below (suc c) = below c ++ c ∷ []

-- Lockstep: d rounds, in each of which all move once, in the order of their numbers.
abbrev pub rounds : ℕ → ℕ → List ℕ
rounds count zero = []
rounds count (suc d) = below count ++ rounds count d
