-- Row-major numbers of the cells of a box, the last dimension fastest.
use Rattle.std.specs.Prelude.{ℕ, ◌+◌, ◌*◌, ◌/◌, ◌%◌, List, [], ◌∷◌}

-- how many cells a box with these extents has
unfoldable pub product : List ℕ → ℕ
product [] = 1
product (e ∷ es) = e * product es

-- the number of the cell with these subscripts
unfoldable pub row_major : List ℕ → List ℕ → ℕ
row_major [] xs = 0
row_major (e ∷ es) [] = 0
row_major (e ∷ es) (x ∷ xs) = x * product es + row_major es xs

-- the subscripts of the cell with this number
unfoldable pub unravel : List ℕ → ℕ → List ℕ
unravel [] n = []
unravel (e ∷ es) n = n / product es ∷ unravel es (n % product es)
