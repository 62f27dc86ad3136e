-- One side of a transfer that is laid out, and two that fit each other.
use Rattle.std.specs.Prelude.{◌≡◌, ◌⊎◌, ◌≤◌, ◌+◌, ◌^◌, ℕ, false, IsTrue, length}
use Rattle.std.specs.List.{list_all}
use Rattle.xmp_base.specs.Limits.{cell_limit}
use Rattle.xmp_dist.specs.Valid.{is_extent}
use Rattle.xmp_map.specs.RowMajor.{product}
use Rattle.xmp_prog.specs.Tests.{is_image}
use Rattle.xmp_move.specs.declared.kind.Side.{Side}
use Rattle.xmp_move.specs.Laid.{MapFits, sections}
use Rattle.xmp_move.specs.Sides.{words_in}

-- what a plan asks of one side at a node
pub record IsLaidSide (side : Side) (node : ℕ) : Type 0 where
  pub no_image : is_image side.home ≡ false
  pub map : MapFits side.home side.extents
  pub dims : length side.extents ≤ 3
  pub extents : IsTrue (list_all is_extent side.extents)
  pub cells : product side.extents ≤ cell_limit
  pub words : side.base + words_in side node ≤ 2 ^ 32

-- what it asks of the parts of both
pub record FitTogether (to from : Side) : Type 0 where
  pub target : length to.parts ≡ length to.extents
  pub source : length from.parts ≡ length from.extents
  pub as_many : (sections from ≡ 0) ⊎ (sections from ≡ sections to)
