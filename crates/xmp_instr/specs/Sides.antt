-- What is asked of the sides of a transfer, one by one and together (this project).
use Rattle.std.specs.Prelude.{◌≡◌, ◌≤◌, ◌⊎◌, ◌+◌, false, IsTrue, length}
use Rattle.std.specs.List.{list_all}
use Rattle.xmp_base.specs.Limits.{cell_limit}
use Rattle.xmp_dist.specs.Valid.{is_extent}
use Rattle.xmp_map.specs.RowMajor.{product}
use Rattle.xmp_prog.specs.Tests.{is_image}
use Rattle.xmp_move.specs.declared.kind.Side.{Side}
use Rattle.xmp_move.specs.Sides.{words_in}
use Rattle.xmp_move.specs.Laid.{AreOfOneGrid, IsOneArray, MapFits, ShareNoWord, grid_of, sections}
use Rattle.xmp_instr.specs.declared.parts.CodeParts.{CodeParts}
use Rattle.xmp_instr.specs.Valid.{HomeOver}

-- its array lies on the code's nodes, and fits its map
pub record Lies (c : CodeParts) (side : Side) : Type 0 where
  pub over : HomeOver c.nodes side.home
  pub no_image : is_image side.home ≡ false
  pub maps : MapFits side.home side.extents

-- it has few dimensions and cells, and its words are in the store
pub record SideFits (c : CodeParts) (side : Side) : Type 0 where
  pub lies : Lies c side
  pub dims : length side.extents ≤ 3
  pub extents : IsTrue (list_all is_extent side.extents)
  pub cells : product side.extents ≤ cell_limit
  pub words : side.base + words_in side c.node ≤ c.words

-- two sides fit each other
pub record PairFits (c : CodeParts) (target source : Side) : Type 0 where
  pub grid : AreOfOneGrid (grid_of target.home) (grid_of source.home)
  pub target_parts : length target.parts ≡ length target.extents
  pub source_parts : length source.parts ≡ length source.extents
  pub sections : (sections source ≡ 0) ⊎ (sections source ≡ sections target)
  pub arrays : IsOneArray target source ⊎ ShareNoWord target source c.node
