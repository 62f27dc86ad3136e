-- Scripts of the tests. Source: this project.
use Rattle.std.specs.Prelude.{◌≡◌, ℕ, ℤ, zero, suc, ◌+◌, ◌%◌, ◌≤◌, Bool, List, [], ◌∷◌, pos, negsuc}
use Rattle.std.proofs.Common.{refl, not-suc-le-zero, le_of_suc-le-suc}
use Rattle.atomic_table.specs.Seated.{TableId}
use Rattle.xmp_script.specs.Script.{Access, Get, Put, Script}
use Rattle.xmp_seg.specs.Seats.{Standing}

-- the least number of 64 bits
abbrev pub least : ℤ
least = negsuc 9223372036854775807

-- one image reads word 0 and writes 6 to it
abbrev pub accesses_single : ℕ → List (Access ℤ)
accesses_single zero = Get 0 ∷ Put 0 (pos 6) ∷ []
accesses_single (suc q) = []

-- no access stands behind the last phase
pub ends_single : (q : ℕ) → 1 ≤ q → accesses_single q ≡ []
ends_single zero past = absurd (not-suc-le-zero past)
ends_single (suc q) past = refl

abbrev pub single : Script ℤ
single = record { start = λ e. pos 5; images = 1; phases = 1; accesses = λ q k. accesses_single q; ends = λ q k past. ends_single q past }

-- one image reads and writes two words
abbrev pub accesses_signs : ℕ → List (Access ℤ)
accesses_signs zero = Get 0 ∷ Get 1 ∷ Put 0 least ∷ Put 1 (negsuc 6) ∷ Get 0 ∷ []
accesses_signs (suc q) = []

-- no access stands behind the last phase
pub ends_signs : (q : ℕ) → 1 ≤ q → accesses_signs q ≡ []
ends_signs zero past = absurd (not-suc-le-zero past)
ends_signs (suc q) past = refl

abbrev pub start_signs : ℕ → ℤ
start_signs zero = negsuc 0
start_signs (suc e) = least

abbrev pub signs : Script ℤ
signs = record { start = start_signs; images = 1; phases = 1; accesses = λ q k. accesses_signs q; ends = λ q k past. ends_signs q past }

-- each of three images writes its number to the word of the next, and after a sync reads its own
abbrev pub accesses_ring : ℕ → ℕ → List (Access ℤ)
accesses_ring zero k = Put ((k + 1) % 3) (pos k) ∷ []
accesses_ring (suc zero) k = Get k ∷ []
accesses_ring (suc (suc q)) k = []

-- no access stands behind the last phase
pub ends_ring : (q k : ℕ) → 2 ≤ q → accesses_ring q k ≡ []
ends_ring zero k past = absurd (not-suc-le-zero past)
ends_ring (suc zero) k past = absurd (not-suc-le-zero (le_of_suc-le-suc past))
ends_ring (suc (suc q)) k past = refl

abbrev pub ring : Script ℤ
ring = record { start = λ e. pos 0; images = 3; phases = 2; accesses = accesses_ring; ends = ends_ring }

-- a seat stands so
abbrev pub IsAt : TableId → ℕ → ℕ → ℕ → Bool → Standing → Type 0
IsAt segment k q i arrived v = (v.segment ≡ segment) × (v.image ≡ k) × (v.phase ≡ q) × (v.place ≡ i) × (v.arrived ≡ arrived)
