use Rattle.std.proofs.Common.{◌≡◌, map, drop}
use Rattle.xmp_names.specs.Walk.{each, each_after}
use Rattle.xmp_names.specs.Lists.{listed}
use Rattle.xmp_directives.specs.Directives.{array_name}
use Rattle.xmp_directives.proofs.directives.array_names.Given as goal

-- what is left to do from here gives what the whole gives
abbrev pub invariant-more : goal.invariant-more
invariant-more l = each array_name (listed l.fn.names) l.fn.world ≡ each_after array_name l.done (map (λ n. n.item) (drop l.next-index l.next-items)) l.world
