-- Grids of nodes, by their sizes. Lists of sizes and of subscripts have three numbers: unused ones are 1 and 0.
use Rattle.std.specs.Prelude.{ℕ, Bool, true, false, ◌+◌, ◌&&◌, nat_le, nat_lt, List, [], ◌∷◌, length}
use Rattle.std.specs.List.{list_all}
use Rattle.xmp_map.specs.RowMajor.{product}

-- sizes, each at least 1, of at most 16 nodes
abbrev pub is_grid : List ℕ → Bool
is_grid sizes = list_all (λ s. nat_le 1 s) sizes && nat_le (product sizes) 16

-- one to three sizes of a grid
abbrev pub makes_grid : List ℕ → Bool
makes_grid sizes = (nat_le 1 (length sizes) && nat_le (length sizes) 3) && is_grid sizes

-- a list of at most three, filled up to three by `x`
abbrev pub filled : {A : Type 0} → A → List A → List A
filled x [] = x ∷ x ∷ x ∷ []
filled x (a ∷ []) = a ∷ x ∷ x ∷ []
filled x (a ∷ b ∷ []) = a ∷ b ∷ x ∷ []
filled x (a ∷ b ∷ c ∷ rest) = a ∷ b ∷ c ∷ []

-- a node, by where it stands in the grid, lies in the box
abbrev pub in_box : List ℕ → List ℕ → List ℕ → Bool
in_box [] _ _ = true
in_box (f ∷ fs) [] _ = false
in_box (f ∷ fs) (m ∷ ms) [] = false
in_box (f ∷ fs) (m ∷ ms) (x ∷ xs) = (nat_le f x && nat_lt x (f + m)) && in_box fs ms xs
