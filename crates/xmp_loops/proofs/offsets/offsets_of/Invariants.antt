use Rattle.std.proofs.Common.{◌≡◌, drop}
use Rattle.xmp_loops.specs.Offsets.{offsets_along}
use Rattle.xmp_loops.specs.Views.{join_reach, reach_of}
use Rattle.xmp_loops.proofs.offsets.offsets_of.Given as goal

-- the dimensions so far, and those that are left, are all
abbrev pub invariant-dims : goal.invariant-dims
invariant-dims l =
    join_reach l.all (reach_of (offsets_along l.d l.map.template.spread (drop l.k l.l-items) (drop l.k l.subscripts)))
    ≡ reach_of (offsets_along l.d l.map.template.spread l.l-items l.subscripts)
