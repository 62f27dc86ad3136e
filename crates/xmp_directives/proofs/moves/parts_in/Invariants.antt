use Rattle.std.proofs.Common.{◌≡◌, drop, []}
use Rattle.xmp_names.specs.Lists.{inner}
use Rattle.xmp_directives.specs.Directives.{parts_in}
use Rattle.xmp_directives.proofs.moves.parts_in.Given as goal

-- what is left to do from here gives what the whole gives
abbrev pub invariant-list : goal.invariant-list
invariant-list l = parts_in l.at [] l.fn.extents (inner l.fn.list) l.fn.world ≡ parts_in l.at l.done l.left (inner (drop l.x-index l.list)) l.world
