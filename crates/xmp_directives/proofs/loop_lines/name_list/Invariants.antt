use Rattle.std.proofs.Common.{◌≡◌, map, drop}
use Rattle.xmp_names.specs.Walk.{each, each_after}
use Rattle.xmp_names.specs.Lists.{listed}
use Rattle.xmp_directives.specs.Directives.{index_name}
use Rattle.xmp_directives.proofs.loop_lines.name_list.Given as goal

-- what is left to do from here gives what the whole gives
abbrev pub invariant-more : goal.invariant-more
invariant-more l = each index_name (listed l.fn.list.item) l.fn.world ≡ each_after index_name l.done (map (λ n. n.item) (drop l.next-index l.next-items)) l.world
