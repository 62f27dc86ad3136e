-- A stack with room for so many numbers (this project).
use Rattle.std.specs.Prelude.{ℕ, List, ℤ}

-- its numbers, the top first, and how many it has room for
pub record Stacked : Type 0 where
  pub values : List ℤ
  pub room : ℕ
