use Rattle.std.proofs.Common.{◌≡◌, ◌+◌, ◌≤◌, drop, map, min}
use Rattle.std.specs.List.{sum}
use Rattle.xmp_names.specs.Sizes.{natural}
use Rattle.xmp_mapping_rules.proofs.template_rules.sum_of.Given as goal

abbrev pub invariant-lengths : goal.invariant-lengths
invariant-lengths l =
    (l.total ≤ 18446744073709551615)
    × (min (sum (map natural l.lengths)) 18446744073709551615 ≡ min (l.total + sum (map natural (drop l.n-index l.lengths))) 18446744073709551615)
