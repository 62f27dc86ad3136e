use Rattle.std.proofs.Common.{◌≡◌, ◌-◌, drop, length}
use Rattle.xmp_names.specs.Walk.{each, each_after}
use Rattle.xmp_names.specs.Lists.{parts}
use Rattle.xmp_directives.specs.MappingLines.{form_of}
use Rattle.xmp_directives.proofs.mapping_lines.forms_of.Given as goal

abbrev pub invariant-list : goal.invariant-list
invariant-list l = each form_of (parts l.list) l.fn.world ≡ each_after form_of l.forms (drop (length l.forms) (parts l.list)) l.world

abbrev pub decreases-list : goal.decreases-list
decreases-list l = length (parts l.list) - length l.forms
