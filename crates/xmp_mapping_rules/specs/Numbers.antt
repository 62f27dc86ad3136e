-- Numbers in a row, and where one stands first among them.
use Rattle.std.specs.Prelude.{◌≡◌, ◌==◌, ℕ, List, Option, Some, None, Bool, false, slice_get}
use Rattle.std.specs.List.{position}

-- The place of the first that is this number.
abbrev pub first_place : ℕ → List ℕ → Option ℕ
first_place k ns = position (λ n. n == k) ns

-- Whether a place is the one that is meant.
abbrev pub is_at : ℕ → Option ℕ → Bool
is_at i None = false
is_at i (Some j) = j == i

-- What a table holds for a number: nothing behind its end.
abbrev pub held : Option (Option ℕ) → Option ℕ
held None = None
held (Some place) = place

-- A table has for each number its first place.
abbrev pub HasPlaces : List (Option ℕ) → List ℕ → Type 0
HasPlaces table all = (k : ℕ) → held (slice_get table k) ≡ first_place k all
