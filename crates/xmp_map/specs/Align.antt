-- How the dimensions of an array are aligned with those of a template, and why a map is refused.
use Rattle.std.specs.Prelude.{ℕ, Bool, true, false, ◌+◌, ◌&&◌, ◌||◌, ◌==◌, nat_le, nat_lt, List, [], ◌∷◌, slice_get, is_none, ℤ, pos, negsuc, Option, Some, None, if◌then◌else◌}
use Rattle.std.specs.List.{list_all, count_by}
use Rattle.xmp_base.specs.Limits.{size_limit}
use Rattle.xmp_map.specs.declared.fault.MapError.{MapError}
use Rattle.xmp_map.specs.declared.fault.MapError.TheVariants.{Align, Shadow}
use Rattle.xmp_map.specs.declared.spread_dim.SpreadDim.{SpreadDim}
use Rattle.xmp_map.specs.declared.aligned.Target.{Target}
use Rattle.xmp_map.specs.declared.aligned.AlignedDim.{AlignedDim}
use Rattle.xmp_map.specs.Nodes.{filled}
use Rattle.xmp_map.specs.Spread.{is_whole}
use Rattle.xmp_map.specs.Shadow.{has_shadow}

-- a dimension of an array by its extent, its target and its shadow widths
abbrev pub aligned_dim : ℕ → Target → ℕ × ℕ → AlignedDim
aligned_dim extent target widths = record { target = target; extent = extent; low = widths.0; high = widths.1 }

-- all dimensions, as far as there are extents
abbrev pub dims_of : List ℕ → List Target → List (ℕ × ℕ) → List AlignedDim
dims_of [] ts ws = []
dims_of (e ∷ es) [] ws = []
dims_of (e ∷ es) (t ∷ ts) [] = []
dims_of (e ∷ es) (t ∷ ts) (w ∷ ws) = aligned_dim e t w ∷ dims_of es ts ws

-- an unused dimension: of extent 1, and aligned with nothing
abbrev pub unused : AlignedDim
unused = record { target = record { dim = None; offset = pos 0 }; extent = 1; low = 0; high = 0 }

-- whether a dimension is as an unused one
abbrev pub is_unused : AlignedDim → Bool
is_unused l = (l.extent == 1) && is_none l.target.dim

-- the dimensions of an array, filled up to three by unused ones
abbrev pub aligned_dims : List ℕ → List Target → List (ℕ × ℕ) → List AlignedDim
aligned_dims extents targets shadow = filled unused (dims_of extents targets shadow)

-- the dimension of the template under a dimension of the array
abbrev pub under : List SpreadDim → Option ℕ → Option SpreadDim
under ss None = None
under ss (Some d) = slice_get ss d

-- whether a target names dimension `k` of the template
abbrev pub names : Option ℕ → ℕ → Bool
names None k = false
names (Some d) k = d == k

-- how many dimensions of the array do
abbrev pub named : List AlignedDim → ℕ → ℕ
named ls k = count_by (λ l. names l.target.dim k) ls

-- no dimension of the template, from `k` on, is named twice, and a distributed one is named
abbrev pub names_fit : List AlignedDim → List SpreadDim → ℕ → Bool
names_fit ls [] k = true
names_fit ls (s ∷ ss) k =
    (nat_le (named ls k) 1 && (is_whole s.dim.dist || (named ls k == 1))) && names_fit ls ss (k + 1)

-- the positions `x + offset` of the subscripts `x` below the extent, which is at least 1, are inside
abbrev pub positions_fit : ℤ → ℕ → Option SpreadDim → Bool
positions_fit offset extent None = false
positions_fit (pos offset) extent (Some s) = nat_le (extent + offset) s.dim.size
positions_fit (negsuc _) extent (Some s) = false

-- a named dimension is one of the template's `dims`, and the array lies inside it
abbrev pub target_fits : ℕ → List SpreadDim → Option ℕ → ℤ → ℕ → Bool
target_fits dims ss None offset extent = true
target_fits dims ss (Some d) offset extent = nat_lt d dims && positions_fit offset extent (slice_get ss d)

-- whether the dimension under one of the array may have a shadow
abbrev pub is_chunked_under : Option SpreadDim → Bool
is_chunked_under None = false
is_chunked_under (Some s) = has_shadow s.dim.dist

-- no width is above 4,194,304, and one above 0 stands on a dimension that is aligned with a block or gblock one
abbrev pub shadow_fits : List SpreadDim → Option ℕ → ℕ → ℕ → Bool
shadow_fits ss d low high =
    (nat_le low size_limit && nat_le high size_limit) && (((low == 0) && (high == 0)) || is_chunked_under (under ss d))

-- the same two tests for one dimension of the array
abbrev pub is_target : ℕ → List SpreadDim → AlignedDim → Bool
is_target dims ss l = target_fits dims ss l.target.dim l.target.offset l.extent

abbrev pub is_shadow : List SpreadDim → AlignedDim → Bool
is_shadow ss l = shadow_fits ss l.target.dim l.low l.high

-- the first reason that refuses a map over a template of `dims` dimensions
abbrev pub map_fault : ℕ → List SpreadDim → List AlignedDim → Option MapError
map_fault dims ss ls =
    if names_fit ls ss 0 && list_all (is_target dims ss) ls
    then (if list_all (is_shadow ss) ls then None else Some Shadow)
    else Some Align
