use Rattle.std.proofs.Common.{◌≡◌, ◌+◌, drop, length, []}
use Rattle.xmp_walk.specs.Program.{items_of, main_items}
use Rattle.xmp_walk.proofs.functions.main_body.Given as goal

-- what is left to do from here gives what the whole gives, and how many items are left
abbrev pub invariant-list : goal.invariant-list
invariant-list l = record {
  rest : items_of [] (main_items l.fn.list) l.fn.world ≡ items_of l.done (main_items (drop l.x-index l.list)) l.world;
  left : l.left + l.x-index ≡ length l.list;
}
