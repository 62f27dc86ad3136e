use Rattle.std.proofs.Common.{◌≡◌, drop}
use Rattle.std.specs.List.{list_all}
use Rattle.xmp_dist.specs.Valid.{is_extent}
use Rattle.xmp_move_tests.proofs.shapes.are_extents.Given as goal

-- what is left to do from here gives what the whole gives
abbrev pub invariant-extents : goal.invariant-extents
invariant-extents l = list_all is_extent l.fn.extents ≡ list_all is_extent (drop l.extent-index l.extents)
