-- What instructions read from the tables of a code (XcalableMP 1.4, distribute, align and shadow directives; the
-- instructions are this project's).
use Rattle.std.specs.Prelude.{ℕ, zero, suc, ◌==◌, if◌then◌else◌, Bool, List, length, ℤ, pos, ◌+ℤ◌, Option, Some, None, slice_get, slice_index}
use Rattle.std.specs.List.{flat_map}
use Rattle.xmp_dist.specs.declared.dimension.Dim.{Dim}
use Rattle.xmp_dist.specs.Owner.{owner}
use Rattle.xmp_map.specs.declared.spread_dim.SpreadDim.{SpreadDim}
use Rattle.xmp_map.specs.declared.template.Template.{Template}
use Rattle.xmp_map.specs.declared.array_map.ArrayMap.{ArrayMap}
use Rattle.xmp_map.specs.RowMajor.{unravel}
use Rattle.xmp_map.specs.Spread.{node_along, owns_point}
use Rattle.xmp_map.specs.Held.{extents, holds_in}
use Rattle.xmp_prog.specs.Formats.{type_asked}
use Rattle.xmp_meaning.specs.Formats.{pieces_of}
use Rattle.xmp_meaning.specs.Layouts.{packed_axis}

-- how many values a format asks for
abbrev pub asked : (format : List ℕ) → ℕ
asked format = length (flat_map type_asked (pieces_of format))

-- the extent of a dimension of a map
abbrev pub extent_of : ArrayMap → (dimension : ℕ) → ℕ
extent_of m d = slice_index (extents m) d

-- The local position of a subscript: how many smaller ones the node holds, and -1 where it does not hold it.
abbrev pub local_position : ArrayMap → (node dimension subscript : ℕ) → ℤ
local_position m node d x = (packed_axis (holds_in m node d) (extent_of m d)).position x

-- whether a node owns a point of a template
abbrev pub owns : Template → (node : ℕ) → (point : List ℤ) → Bool
owns t node point = owns_point (unravel t.grid.sizes node) t.spread point

-- the first of so many numbers from `g` on that node `c` of the dimension owns; the number behind them where it owns none
unfoldable pub first_owned : Dim → (c : ℕ) → (g : ℤ) → (count : ℕ) → ℤ
first_owned dim c g zero = g
first_owned dim c g (suc n) = if owner dim g == c then g else first_owned dim c (g +ℤ pos 1) n

-- the same of a dimension of a template, for a node by its number
abbrev pub next_along : Template → (node : ℕ) → Option SpreadDim → (g : ℤ) → (count : ℕ) → ℤ
next_along t node None g count = g
next_along t node (Some s) g count = first_owned s.dim (node_along (unravel t.grid.sizes node) s) g count

abbrev pub next_owned : Template → (node dimension : ℕ) → (g : ℤ) → (count : ℕ) → ℤ
next_owned t node d g count = next_along t node (slice_get t.spread d) g count
