-- Cells of an array that lie at a point of its template, or near it (XcalableMP 1.4, the shadow directive and the loop
-- construct).
use Rattle.std.specs.Prelude.{◌≡◌, ◌<◌, ◌+◌, ◌&&◌, ◌||◌, int_le, ℕ, ℤ, pos, ◌+ℤ◌, Bool, true, List, length, map, IsTrue, Option, Some, None, unwrap_or, slice_get}
use Rattle.xmp_map.specs.declared.spread_dim.SpreadDim.{SpreadDim}
use Rattle.xmp_map.specs.declared.array_map.ArrayMap.{ArrayMap}
use Rattle.xmp_map.specs.RowMajor.{unravel}
use Rattle.xmp_map.specs.Boxes.{all_pass}
use Rattle.xmp_map.specs.Align.{under}
use Rattle.xmp_map.specs.Spread.{is_whole, owns_point}
use Rattle.xmp_map.specs.Held.{node_count, offset_of, IsCell, owns, holds}

-- the position of a point in a dimension of the template; 0 where there is none
abbrev pub position_of : (point : List ℤ) → Option ℕ → ℤ
position_of point None = pos 0
position_of point (Some d) = unwrap_or (slice_get point d) (pos 0)

-- whether a position lies at most `low` before another, which may be outside the template, and at most `high` behind it
abbrev pub is_beside : (at : ℤ) → (low high x : ℕ) → Bool
is_beside at low high x = int_le at (pos (x + low)) && int_le (pos x) (at +ℤ pos high)

-- whether a subscript does, where its dimension lies on a distributed one
abbrev pub is_beside_on : Option SpreadDim → (at : ℤ) → (offset low high x : ℕ) → Bool
is_beside_on None at offset low high x = true
is_beside_on (Some s) at offset low high x = is_whole s.dim.dist || is_beside at low high (x + offset)

-- a cell lies near a point where each subscript lies within the shadow's widths of the point's position
abbrev pub is_near : ArrayMap → (point : List ℤ) → (cell : List ℕ) → Bool
is_near m point cell = all_pass (map (λ l.
    is_beside_on (under m.template.spread l.target.dim) (position_of point l.target.dim) (offset_of l.target.offset) l.low l.high) m.aligned) cell

-- it lies at the point where each subscript has the point's position
abbrev pub is_at : ArrayMap → (point : List ℤ) → (cell : List ℕ) → Bool
is_at m point cell = all_pass (map (λ l.
    is_beside_on (under m.template.spread l.target.dim) (position_of point l.target.dim) (offset_of l.target.offset) 0 0) m.aligned) cell

-- A node that owns a point, one outside the template too, holds the cells of an array that lie near it, and owns those
-- that lie at it; of a cell at a point no other node is the owner.
pub record PointsReach (m : ArrayMap) : Type 0 where
  pub held : (node : ℕ) (point : List ℤ) (cell : List ℕ) → length point ≡ m.template.dims → IsCell m cell
      → IsTrue (owns_point (unravel m.template.grid.sizes node) m.template.spread point) → IsTrue (is_near m point cell)
      → IsTrue (holds m node cell)
  pub owned : (node : ℕ) (point : List ℤ) (cell : List ℕ) → length point ≡ m.template.dims → IsCell m cell
      → IsTrue (owns_point (unravel m.template.grid.sizes node) m.template.spread point) → IsTrue (is_at m point cell)
      → IsTrue (owns m node cell)
  pub alone : (node : ℕ) (point : List ℤ) (cell : List ℕ) → length m.aligned ≡ 3 → length m.template.spread ≡ 3
      → length m.template.grid.sizes ≡ 3 → length point ≡ m.template.dims → IsCell m cell → node < node_count m
      → IsTrue (owns m node cell) → IsTrue (is_at m point cell)
      → IsTrue (owns_point (unravel m.template.grid.sizes node) m.template.spread point)
