use Rattle.std.proofs.Common.{◌≡◌, map, drop, []}
use Rattle.xmp_walk.specs.Program.{inside_item, items_of}
use Rattle.xmp_walk.proofs.functions.body.Given as goal

-- what is left to do from here gives what the whole gives
abbrev pub invariant-list : goal.invariant-list
invariant-list l = items_of [] (map inside_item l.fn.list) l.fn.world ≡ items_of l.done (map inside_item (drop l.x-index l.list)) l.world
