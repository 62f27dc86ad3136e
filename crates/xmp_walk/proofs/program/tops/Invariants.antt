use Rattle.std.proofs.Common.{◌≡◌, ◌+◌, drop, length}
use Rattle.xmp_walk.specs.Program.{tops_of}
use Rattle.xmp_walk.proofs.program.tops.Given as goal

-- what is left to do from here gives what the whole gives, and how many parts are left
abbrev pub invariant-list : goal.invariant-list
invariant-list l = record {
  rest : tops_of l.fn.list l.fn.world ≡ tops_of (drop l.x-index l.list) l.world;
  left : l.left + l.x-index ≡ length l.list;
}
