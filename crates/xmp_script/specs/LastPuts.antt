-- What an image sees of a word, by the last write to it (this project): a second reading of `seen`, without words from
-- phase to phase.
use Rattle.std.specs.Prelude.{◌≡◌, ◌≢◌, ℕ, ◌<◌, List, take, slice_get, Some}
use Rattle.xmp_script.specs.Script.{Access, Put, Script}

-- of these accesses, the last one that writes word e writes v
abbrev pub IsLastPut : {V : Type 0} → List (Access V) → ℕ → V → Type 0
IsLastPut {V} l e v =
    (i : ℕ) × (slice_get l i ≡ Some (Put e v)) × ((j : ℕ) (u : V) → i < j → slice_get l j ≢ Some (Put e u))

-- none of these accesses writes word e
abbrev pub HasNoPut : {V : Type 0} → List (Access V) → ℕ → Type 0
HasNoPut {V} l e = (i : ℕ) (u : V) → slice_get l i ≢ Some (Put e u)

-- The value of word e for image k in phase q after i of its accesses: that of its own last put in the phase; where it
-- has none, of the last put in an earlier phase, by phase and then place; where there is none, the start word.
pub data IsSeen {V : Type 0} (s : Script V) (k q i e : ℕ) : V → Type 0 where
  Own : {v : V} → IsLastPut (take i (s.accesses q k)) e v → IsSeen s k q i e v
  Earlier : {v : V} (p j : ℕ) → HasNoPut (take i (s.accesses q k)) e → p < q → j < s.images →
      IsLastPut (s.accesses p j) e v →
      ((r l : ℕ) → p < r → r < q → l < s.images → HasNoPut (s.accesses r l) e) → IsSeen s k q i e v
  AtStart : HasNoPut (take i (s.accesses q k)) e → ((r l : ℕ) → r < q → l < s.images → HasNoPut (s.accesses r l) e) →
      IsSeen s k q i e (s.start e)
