use Rattle.std.proofs.Common.{◌≡◌, drop, []}
use Rattle.xmp_directives.specs.Directives.{reductions_of}
use Rattle.xmp_directives.proofs.loop_lines.reductions_of.Given as goal

-- what is left to do from here gives what the whole gives
abbrev pub invariant-list : goal.invariant-list
invariant-list l = reductions_of [] l.fn.list l.fn.world ≡ reductions_of l.done (drop l.reduction-index l.list) l.world
