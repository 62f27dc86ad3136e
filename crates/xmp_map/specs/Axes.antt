-- The owner of a cell of an array along one axis of the grid.
use Rattle.std.specs.Prelude.{ℕ, Bool, ◌+◌, ◌==◌, ◌&&◌, not, false, List, [], ◌∷◌, Option, Some, None, unwrap_or, if◌then◌else◌}
use Rattle.xmp_dist.specs.Owner.{owner_inside}
use Rattle.xmp_map.specs.declared.spread_dim.SpreadDim.{SpreadDim}
use Rattle.xmp_map.specs.declared.aligned.AlignedDim.{AlignedDim}
use Rattle.xmp_map.specs.Spread.{is_whole}
use Rattle.xmp_map.specs.Align.{under}
use Rattle.xmp_map.specs.Held.{offset_of}

-- whether a dimension of a template lies on axis `k`
abbrev pub lies_on : Option SpreadDim → ℕ → Bool
lies_on None k = false
lies_on (Some s) k = not (is_whole s.dim.dist) && (s.axis == k)

-- the owner of subscript `x` along the dimension
abbrev pub owner_over : Option SpreadDim → ℕ → ℕ → ℕ
owner_over None offset x = 0
owner_over (Some s) offset x = owner_inside s.dim (x + offset)

-- the same along axis `k`, where the dimension lies on that axis
abbrev pub owner_on : List SpreadDim → AlignedDim → ℕ → ℕ → Option ℕ
owner_on ss l x k =
    if lies_on (under ss l.target.dim) k
    then Some (owner_over (under ss l.target.dim) (offset_of l.target.offset) x)
    else None

-- the owner of a cell along axis `k`, or 0 where no dimension lies on it
abbrev pub owner_along : List SpreadDim → List AlignedDim → List ℕ → ℕ → ℕ
owner_along ss [] xs k = 0
owner_along ss (l ∷ ls) [] k = 0
owner_along ss (l ∷ ls) (x ∷ xs) k = unwrap_or (owner_on ss l x k) (owner_along ss ls xs k)
