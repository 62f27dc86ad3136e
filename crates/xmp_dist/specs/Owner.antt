-- Who owns a position of a dimension, and which number a position has among its owner's.
use Rattle.std.specs.Prelude.{ℕ, ◌-◌, ◌==◌, min, ℤ, pos, negsuc}
use Rattle.xmp_dist.specs.declared.dimension.Dim.{Dim}
use Rattle.xmp_dist.specs.Count.{count_below}
use Rattle.xmp_dist.specs.Table.{owner_by}

-- the owner of a position
unfoldable pub owner_inside : Dim → ℕ → ℕ
owner_inside d g = owner_by d.dist d.size d.nodes g

-- the position that is nearest to `g`, which may lie outside
abbrev pub nearest : ℕ → ℤ → ℕ
nearest size (pos g) = min g (size - 1)
nearest size (negsuc _) = 0

-- the owner of any number: one outside is owned as the nearest position is
abbrev pub owner : Dim → ℤ → ℕ
owner d g = owner_inside d (nearest d.size g)

-- how many positions below `g` node `c` owns
abbrev pub owned_below : Dim → ℕ → ℕ → ℕ
owned_below d c g = count_below (λ x. owner_inside d x == c) g

-- how many positions node `c` owns
abbrev pub count : Dim → ℕ → ℕ
count d c = owned_below d c d.size

-- the local number of a position: how many smaller ones have the same owner
abbrev pub local : Dim → ℕ → ℕ
local d g = owned_below d (owner_inside d g) g
