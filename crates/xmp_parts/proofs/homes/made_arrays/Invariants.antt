use Rattle.std.proofs.Common.{take}
use Rattle.xmp_parts.specs.Parts.{EachMade, IsArray}
use Rattle.xmp_parts.proofs.homes.made_arrays.Given as goal

abbrev pub invariant-arrays : goal.invariant-arrays
invariant-arrays l = EachMade (IsArray l.lines l.templates) 0 (take l.k l.arrays) l.made
