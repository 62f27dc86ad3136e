use Rattle.std.proofs.Common.{◌≡◌, drop}
use Rattle.xmp_names.specs.Walk.{each, each_after}
use Rattle.xmp_names.specs.Lists.{inner}
use Rattle.xmp_directives.specs.MappingLines.{widths_of}
use Rattle.xmp_directives.proofs.align_lines.all_widths.Given as goal

abbrev pub invariant-list : goal.invariant-list
invariant-list l = each (widths_of) (inner l.list) l.fn.world ≡ each_after (widths_of) l.widths (inner (drop l.x-index l.list)) l.world
