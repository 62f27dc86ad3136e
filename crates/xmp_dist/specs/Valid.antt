-- Which sizes, nodes and forms make a dimension. These speak of the parts, and not of a `Dim`.
use Rattle.std.specs.Prelude.{ℕ, Bool, true, ◌&&◌, ◌==◌, nat_le, sum, Option, Some, None, if◌then◌else◌}
use Rattle.xmp_base.specs.Limits.{size_limit, node_limit}
use Rattle.xmp_dist.specs.declared.form.Dist.{Dist}
use Rattle.xmp_dist.specs.declared.form.Dist.TheVariants.{Whole, Cyclic, Gblock}
use Rattle.xmp_dist.specs.declared.form.DimError.{DimError}
use Rattle.xmp_dist.specs.declared.form.DimError.TheVariants.{BadSize, BadChunk, BadSum}
use Rattle.xmp_dist.specs.Table.{lengths_of}

-- a size, and a width of a cyclic form: 1 to 4,194,304
abbrev pub is_extent : ℕ → Bool
is_extent n = nat_le 1 n && nat_le n size_limit

-- 1 to 16 nodes, and one alone where the dimension is undistributed
abbrev pub nodes_fit : Dist → ℕ → Bool
nodes_fit Whole nodes = nodes == 1
nodes_fit _ nodes = nat_le 1 nodes && nat_le nodes node_limit

abbrev pub width_fits : Dist → Bool
width_fits (Cyclic width) = is_extent width
width_fits _ = true

-- as many lengths as nodes, and together the size
abbrev pub lengths_fit : Dist → ℕ → ℕ → Bool
lengths_fit (Gblock lengths) size nodes =
    (lengths.count == nodes) && (sum (lengths_of lengths) == size)
lengths_fit _ size nodes = true

-- the parts make a dimension
abbrev pub is_dim : ℕ → ℕ → Dist → Bool
is_dim size nodes dist =
    ((is_extent size && nodes_fit dist nodes) && width_fits dist) && lengths_fit dist size nodes

-- the first reason that refuses them
abbrev pub dim_fault : ℕ → ℕ → Dist → Option DimError
dim_fault size nodes dist =
    if is_extent size && nodes_fit dist nodes
    then (if width_fits dist
    then (if lengths_fit dist size nodes then None else Some BadSum)
    else Some BadChunk)
    else Some BadSize
