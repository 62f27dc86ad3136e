use Rattle.std.proofs.Common.{◌≡◌, map, drop}
use Rattle.xmp_names.specs.Walk.{each, each_after}
use Rattle.xmp_names.specs.Lists.{listed}
use Rattle.xmp_directives.specs.Directives.{scalar_name}
use Rattle.xmp_directives.proofs.directives.scalar_names.Given as goal

-- what is left to do from here gives what the whole gives
abbrev pub invariant-more : goal.invariant-more
invariant-more l = each scalar_name (listed l.fn.names) l.fn.world ≡ each_after scalar_name l.done (map (λ n. n.item) (drop l.next-index l.next-items)) l.world
