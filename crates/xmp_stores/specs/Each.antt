-- A function of each of a list and its number.
use Rattle.std.specs.Prelude.{ℕ, suc, List, [], ◌∷◌}

-- what it gives of each, where the first has this number
abbrev pub each_by : {A B : Type 0} → (ℕ → A → B) → (at : ℕ) → List A → List B
each_by f at [] = []
each_by f at (a ∷ rest) = f at a ∷ each_by f (suc at) rest
