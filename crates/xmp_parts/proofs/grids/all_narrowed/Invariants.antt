use Rattle.std.proofs.Common.{◌≡◌, ◌++◌, map, drop}
use Rattle.xmp_names.specs.Sizes.{natural}
use Rattle.xmp_parts.proofs.grids.all_narrowed.Given as goal

abbrev pub invariant-list : goal.invariant-list
invariant-list l = map natural l.list ≡ l.done ++ map natural (drop l.n-index l.list)
