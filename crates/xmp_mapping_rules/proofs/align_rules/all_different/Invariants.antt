use Rattle.std.proofs.Common.{◌≡◌, drop}
use Rattle.std.specs.List.{list_all, enumerate_from}
use Rattle.xmp_mapping_rules.specs.Numbers.{first_place, is_at}
use Rattle.xmp_mapping_rules.proofs.align_rules.all_different.Given as goal

abbrev pub invariant-list : goal.invariant-list
invariant-list l = list_all (λ x. is_at x.0 (first_place x.1 l.dimensions)) (enumerate_from 0 l.list) ≡ list_all (λ x. is_at x.0 (first_place x.1 l.dimensions)) (enumerate_from l.i (drop l.i l.list))
