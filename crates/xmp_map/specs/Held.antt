-- Who owns a cell of an array, which cells a node holds, and where they lie in its store.
use Rattle.std.specs.Prelude.{ℕ, Bool, true, false, ◌+◌, ◌==◌, List, map, slice_get, ℤ, pos, negsuc, Option, Some, None}
use Rattle.xmp_dist.specs.Owner.{owner_inside}
use Rattle.xmp_map.specs.declared.spread_dim.SpreadDim.{SpreadDim}
use Rattle.xmp_map.specs.declared.aligned.AlignedDim.{AlignedDim}
use Rattle.xmp_map.specs.declared.array_map.ArrayMap.{ArrayMap}
use Rattle.xmp_map.specs.RowMajor.{product, row_major, unravel}
use Rattle.xmp_map.specs.Boxes.{IsInside, all_pass, counts_below, count_cells}
use Rattle.xmp_map.specs.Shadow.{holds_at}
use Rattle.xmp_map.specs.Spread.{node_along}
use Rattle.xmp_map.specs.Align.{under}

-- how many nodes the grid under an array has
abbrev pub node_count : ArrayMap → ℕ
node_count m = product m.template.grid.sizes

-- how many subscripts each dimension has
abbrev pub extents : ArrayMap → List ℕ
extents m = map (λ l. l.extent) m.aligned

-- an offset, which is never negative where a dimension is aligned
abbrev pub offset_of : ℤ → ℕ
offset_of (pos n) = n
offset_of (negsuc _) = 0

-- whether the node that stands at `at` in the grid owns subscript `x` along a dimension; where nothing is under it, all do
abbrev pub owns_over : Option SpreadDim → List ℕ → ℕ → ℕ → Bool
owns_over None at offset x = true
owns_over (Some s) at offset x = owner_inside s.dim (x + offset) == node_along at s

-- whether it holds subscript `x`
abbrev pub holds_over : Option SpreadDim → List ℕ → ℕ → ℕ → ℕ → ℕ → Bool
holds_over None at offset low high x = true
holds_over (Some s) at offset low high x = holds_at s.dim (node_along at s) low high (x + offset)

-- the same for one dimension of the array
abbrev pub owns_on : List SpreadDim → List ℕ → AlignedDim → ℕ → Bool
owns_on ss at l x = owns_over (under ss l.target.dim) at (offset_of l.target.offset) x

abbrev pub holds_on : List SpreadDim → List ℕ → AlignedDim → ℕ → Bool
holds_on ss at l x = holds_over (under ss l.target.dim) at (offset_of l.target.offset) l.low l.high x

-- a node owns a cell where it owns each subscript: its place in the grid has the owners of the cell's positions
abbrev pub owns : ArrayMap → ℕ → List ℕ → Bool
owns m node cell =
    all_pass (map (λ l. owns_on m.template.spread (unravel m.template.grid.sizes node) l) m.aligned) cell

-- which subscripts a node holds, dimension by dimension
abbrev pub tests : ArrayMap → ℕ → List (ℕ → Bool)
tests m node = map (λ l. holds_on m.template.spread (unravel m.template.grid.sizes node) l) m.aligned

-- whether it holds subscript `x` of dimension `d`
abbrev pub holds_dim : List SpreadDim → List ℕ → Option AlignedDim → ℕ → Bool
holds_dim ss at None x = false
holds_dim ss at (Some l) x = holds_on ss at l x

-- the same for a node by its number
abbrev pub holds_in : ArrayMap → ℕ → ℕ → ℕ → Bool
holds_in m node d x = holds_dim m.template.spread (unravel m.template.grid.sizes node) (slice_get m.aligned d) x

-- a node holds a cell where it holds each subscript
abbrev pub holds : ArrayMap → ℕ → List ℕ → Bool
holds m node cell = all_pass (tests m node) cell

-- how many cells a node holds
abbrev pub words : ArrayMap → ℕ → ℕ
words m node = count_cells (extents m) (holds m node)

-- how many subscripts a node holds, dimension by dimension
abbrev pub held_counts : ArrayMap → ℕ → List ℕ
held_counts m node = counts_below (tests m node) (extents m)

-- the local positions of a cell: how many smaller subscripts the node holds, dimension by dimension
abbrev pub local_positions : ArrayMap → ℕ → List ℕ → List ℕ
local_positions m node cell = counts_below (tests m node) cell

-- the row-major number of a cell's local positions among the held cells
abbrev pub slot : ArrayMap → ℕ → List ℕ → ℕ
slot m node cell = row_major (held_counts m node) (local_positions m node cell)

-- a cell with a subscript below the extent in each dimension
abbrev pub IsCell : ArrayMap → List ℕ → Type 0
IsCell m cell = IsInside cell (extents m)
