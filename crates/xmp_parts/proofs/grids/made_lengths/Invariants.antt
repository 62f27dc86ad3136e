use Rattle.std.proofs.Common.{◌≡◌, map, take}
use Rattle.xmp_names.specs.Sizes.{natural}
use Rattle.xmp_parts.specs.Parts.{padded}
use Rattle.xmp_parts.proofs.grids.made_lengths.Given as goal

abbrev pub invariant-list : goal.invariant-list
invariant-list l = l.values ≡ padded 16 (map natural (take l.i l.list))
