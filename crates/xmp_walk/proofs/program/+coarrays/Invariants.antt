use Rattle.std.proofs.Common.{◌≡◌, drop}
use Rattle.std.specs.List.{list_any}
use Rattle.xmp_walk.specs.Program.{coarray_in, coarray_stmt}
use Rattle.xmp_walk.proofs.program.+coarrays.Given as goal

-- what is left to do from here gives what the whole gives
abbrev pub invariant-items_have-list : goal.invariant-items_have-list
invariant-items_have-list l = list_any coarray_in l.fn.list ≡ list_any coarray_in (drop l.x-index l.list)

-- what is left to do from here gives what the whole gives
abbrev pub invariant-tasks_have-list : goal.invariant-tasks_have-list
invariant-tasks_have-list l = list_any (λ x. coarray_stmt x.1) l.fn.list ≡ list_any (λ x. coarray_stmt x.1) (drop l.body-index l.list)
