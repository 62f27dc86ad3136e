-- What a run leaves: what node 0 printed, and for each node its store and the turns that it made in the loops.
use Rattle.std.specs.Prelude.{ℕ, ℤ, List}

pub record World : Type 0 where
  pub out : List ℕ
  pub stores : List (List ℤ)
  pub turns : List ℕ
