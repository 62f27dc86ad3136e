use Rattle.std.proofs.Common.{◌≡◌, drop}
use Rattle.std.specs.List.{list_any}
use Rattle.xmp_walk.specs.Program.{coarray_in}
use Rattle.xmp_walk.proofs.program.body_has.Given as goal

-- what is left to do from here gives what the whole gives
abbrev pub invariant-list : goal.invariant-list
invariant-list l = list_any coarray_in l.fn.list ≡ list_any coarray_in (drop l.x-index l.list)
