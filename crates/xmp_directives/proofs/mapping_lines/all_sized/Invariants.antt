use Rattle.std.proofs.Common.{◌≡◌, drop}
use Rattle.xmp_names.specs.Walk.{each, each_after}
use Rattle.xmp_names.specs.Lists.{inner}
use Rattle.xmp_directives.specs.MappingLines.{sized}
use Rattle.xmp_directives.proofs.mapping_lines.all_sized.Given as goal

abbrev pub invariant-list : goal.invariant-list
invariant-list l = each sized (inner l.list) l.fn.world ≡ each_after sized l.dims (inner (drop l.x-index l.list)) l.world
