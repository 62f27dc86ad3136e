-- Cells of arrays, each array a row of cells.
use Rattle.std.specs.Prelude.{ℕ, List, [], ℤ, pos, negsuc, unwrap_or, slice_get, slice_set}

-- a row by its number; there is none outside
abbrev pub row_in : List (List ℤ) → ℕ → List ℤ
row_in rows row = unwrap_or (slice_get rows row) []

-- a cell of a row; 0 outside
abbrev pub cell_in : List (List ℤ) → ℕ → ℕ → ℤ
cell_in rows row at = unwrap_or (slice_get (row_in rows row) at) (pos 0)

-- the rows with another value in one cell; a write outside changes nothing
abbrev pub with_cell : List (List ℤ) → ℕ → ℕ → ℤ → List (List ℤ)
with_cell rows row at v = slice_set rows row (slice_set (row_in rows row) at v)

-- the same at any whole number: a row has no cell at a negative one
abbrev pub read_in : List (List ℤ) → ℕ → ℤ → ℤ
read_in rows row (pos n) = cell_in rows row n
read_in rows row (negsuc n) = pos 0

abbrev pub write_in : List (List ℤ) → ℕ → ℤ → ℤ → List (List ℤ)
write_in rows row (pos n) v = with_cell rows row n v
write_in rows row (negsuc n) v = rows
