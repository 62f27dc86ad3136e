use Rattle.std.proofs.Common.{◌≡◌, drop}
use Rattle.xmp_names.specs.Walk.{each, each_after, typed_constant}
use Rattle.xmp_names.specs.Lists.{inner}
use Rattle.xmp_walk.proofs.declarations.extent_values.Given as goal

-- what is left to do from here gives what the whole gives
abbrev pub invariant-list : goal.invariant-list
invariant-list l = each typed_constant (inner l.fn.list) l.fn.world ≡ each_after typed_constant l.values (inner (drop l.extent-index l.list)) l.world
