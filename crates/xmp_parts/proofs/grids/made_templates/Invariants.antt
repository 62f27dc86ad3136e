use Rattle.std.proofs.Common.{take}
use Rattle.xmp_parts.specs.Parts.{EachMade, IsTemplate}
use Rattle.xmp_parts.proofs.grids.made_templates.Given as goal

abbrev pub invariant-list : goal.invariant-list
invariant-list l = EachMade (λ k line t. IsTemplate l.lines l.grid k t) 0 (take l.k l.list) l.made
