use Rattle.std.proofs.Common.{◌≡◌, ◌*◌, ◌≤◌, IsTrue, drop}
use Rattle.std.specs.List.{list_all}
use Rattle.xmp_base.specs.Limits.{cell_limit}
use Rattle.xmp_dist.specs.Valid.{is_extent}
use Rattle.xmp_map.specs.RowMajor.{product}
use Rattle.xmp_instr.proofs.moves.cells.Given as goal

-- the cells so far, times those of the rest, are all
abbrev pub invariant-extents : goal.invariant-extents
invariant-extents l = (product l.fn.extents ≡ l.count * product (drop l.extent-index l.extents))
    × (l.count ≤ cell_limit) × IsTrue (list_all is_extent (drop l.extent-index l.extents))
