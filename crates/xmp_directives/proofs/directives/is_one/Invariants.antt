use Rattle.std.proofs.Common.{◌≡◌, drop}
use Rattle.xmp_directives.specs.Directives.{is_one}
use Rattle.xmp_directives.proofs.directives.is_one.Given as goal

-- what is left to do from here gives what the whole gives
abbrev pub invariant-list : goal.invariant-list
invariant-list l = is_one l.fn.ranges ≡ is_one (drop l.range-index l.ranges)
