-- Dimensions of a template over the axes of a grid, and why a template is refused.
use Rattle.std.specs.Prelude.{ℕ, Bool, true, false, ◌+◌, ◌&&◌, ◌||◌, ◌==◌, nat_le, List, [], ◌∷◌, length, slice_index, ℤ, Option, Some, None, if◌then◌else◌}
use Rattle.std.specs.List.{list_all}
use Rattle.xmp_dist.specs.declared.form.Dist.{Dist}
use Rattle.xmp_dist.specs.declared.form.Dist.TheVariants.{Whole}
use Rattle.xmp_dist.specs.Valid.{is_extent, width_fits, lengths_fit}
use Rattle.xmp_dist.specs.Owner.{owner}
use Rattle.xmp_map.specs.declared.fault.MapError.{MapError}
use Rattle.xmp_map.specs.declared.fault.MapError.TheVariants.{Size, Spread, Chunk}
use Rattle.xmp_map.specs.declared.spread_dim.SpreadDim.{SpreadDim}

-- whether a form is undistributed
abbrev pub is_whole : Dist → Bool
is_whole Whole = true
is_whole _ = false

-- how many axes of the grid a dimension takes: 1 where it is distributed
abbrev pub spread : Dist → ℕ
spread d = if is_whole d then 0 else 1

-- how many dimensions are distributed
abbrev pub spreads : List Dist → ℕ
spreads [] = 0
spreads (d ∷ ds) = spread d + spreads ds

-- the distributed dimensions lie, in order, on the axes from `k` on, and each has as many nodes as its axis
abbrev pub lies_over : List SpreadDim → List ℕ → ℕ → Bool
lies_over [] sizes k = true
lies_over (s ∷ ss) sizes k =
    ((s.axis == k) && (is_whole s.dim.dist || (s.dim.nodes == slice_index sizes k)))
    && lies_over ss sizes (k + spread s.dim.dist)

-- one to three sizes, each in its range
abbrev pub sizes_fit : List ℕ → Bool
sizes_fit sizes = (nat_le 1 (length sizes) && nat_le (length sizes) 3) && list_all is_extent sizes

-- the parts of a form fit its size and its number of nodes
abbrev pub chunk_fits : Dist → ℕ → ℕ → Bool
chunk_fits d size nodes = width_fits d && lengths_fit d size nodes

-- the same for each dimension, where the distributed ones lie on the axes from `k` on
abbrev pub chunks_fit : List ℕ → List Dist → List ℕ → ℕ → Bool
chunks_fit [] ds grid k = true
chunks_fit (s ∷ ss) [] grid k = true
chunks_fit (s ∷ ss) (d ∷ ds) grid k = chunk_fits d s (slice_index grid k) && chunks_fit ss ds grid (k + spread d)

-- the first reason that refuses a template over a grid of `dims` dimensions with these sizes
abbrev pub template_fault : ℕ → List ℕ → List ℕ → List Dist → Option MapError
template_fault dims grid sizes dists =
    if sizes_fit sizes
    then (if (length dists == length sizes) && (spreads dists == dims)
    then (if chunks_fit sizes dists grid 0 then None else Some Chunk)
    else Some Spread)
    else Some Size

-- the number, along a dimension, of the node that stands at `at` in the grid; 0 where the dimension is undistributed
abbrev pub node_along : List ℕ → SpreadDim → ℕ
node_along at s = if is_whole s.dim.dist then 0 else slice_index at s.axis

-- that node is, in each dimension of the point, the owner
abbrev pub owns_point : List ℕ → List SpreadDim → List ℤ → Bool
owns_point at [] gs = true
owns_point at (s ∷ ss) [] = true
owns_point at (s ∷ ss) (g ∷ gs) = (owner s.dim g == node_along at s) && owns_point at ss gs
