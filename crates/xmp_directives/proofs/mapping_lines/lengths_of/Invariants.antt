use Rattle.std.proofs.Common.{◌≡◌, drop, map}
use Rattle.xmp_names.specs.Walk.{constant, each, each_after}
use Rattle.xmp_names.specs.Lists.{listed}
use Rattle.xmp_directives.proofs.mapping_lines.lengths_of.Given as goal

abbrev pub invariant-more : goal.invariant-more
invariant-more l = each constant (listed l.fn.list) l.fn.world ≡ each_after constant l.lengths (map (λ n. n.item) (drop l.next-index l.more)) l.world
