use Rattle.std.proofs.Common.{◌≡◌, drop, []}
use Rattle.xmp_names.specs.Lists.{inner}
use Rattle.xmp_directives.specs.MappingLines.{dummies_from}
use Rattle.xmp_directives.proofs.align_lines.dummies_of.Given as goal

abbrev pub invariant-list : goal.invariant-list
invariant-list l = dummies_from 0 [] (inner l.list) l.fn.world ≡ dummies_from l.i l.known (inner (drop l.i l.list)) l.world
