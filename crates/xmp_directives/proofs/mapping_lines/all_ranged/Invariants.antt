use Rattle.std.proofs.Common.{◌≡◌, drop, map}
use Rattle.xmp_names.specs.Walk.{each, each_after}
use Rattle.xmp_names.specs.Lists.{listed}
use Rattle.xmp_directives.specs.MappingLines.{ranged}
use Rattle.xmp_directives.proofs.mapping_lines.all_ranged.Given as goal

abbrev pub invariant-more : goal.invariant-more
invariant-more l = each ranged (listed l.fn.list) l.fn.world ≡ each_after ranged l.dims (map (λ n. n.item) (drop l.next-index l.more)) l.world
