use Rattle.std.proofs.Common.{◌≡◌, ◌++◌, drop, map}
use Rattle.xmp_names.specs.Lists.{inner}
use Rattle.xmp_directives.specs.MappingLines.{has_dummy}
use Rattle.xmp_directives.proofs.align_lines.have_dummies.Given as goal

abbrev pub invariant-list : goal.invariant-list
invariant-list l = map has_dummy (inner l.list) ≡ l.have ++ map has_dummy (inner (drop l.x-index l.list))
