-- A node's block of the cells, and its part of the sum.
use Rattle.std.specs.Prelude.{◌≡◌, ℕ, ℤ, ◌+◌, ◌-◌, ◌+ℤ◌, List, [], ◌∷◌}
use Rattle.xmp_num.specs.declared.types.Ty.TheVariants.{Int}
use Rattle.xmp_num.specs.Arithmetic.{wrap}
use Rattle.xmp_dist.specs.declared.dimension.Dim.{Dim}
use Rattle.xmp_dist.specs.declared.form.Dist.TheVariants.{Block}
use Rattle.xmp_dist.specs.Table.{chunk_start, chunk_end}
use Rattle.xmp_first.specs.FirstGrammar.{Sum}
use Rattle.xmp_first.specs.FirstMeaning.{cell_value}
use Rattle.xmp_first.specs.Nodes.{tabulate}

-- The dimension spreads so many cells over so many nodes in blocks.
pub record IsBlocks (dim : Dim) (size nodes : ℕ) : Type 0 where
  pub size_is : dim.size ≡ size
  pub nodes_is : dim.nodes ≡ nodes
  pub dist_is : dim.dist ≡ Block

-- the values of so many cells, from a cell on
abbrev pub cells_from : Sum → ℕ → ℕ → List ℤ
cells_from e start many = tabulate (λ k. cell_value e (start + k)) many

-- the values of the cells that a node owns
abbrev pub block_of : ℕ → ℕ → Sum → ℕ → List ℤ
block_of size nodes e node = cells_from e (chunk_start Block size nodes node) (chunk_end Block size nodes node - chunk_start Block size nodes node)

-- a number with values added to it, one after another, as `int`
abbrev pub summed : ℤ → List ℤ → ℤ
summed s [] = s
summed s (x ∷ xs) = summed (wrap Int (s +ℤ x)) xs
