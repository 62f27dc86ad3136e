use Rattle.std.proofs.Common.{◌≡◌, ◌||◌, not, drop}
use Rattle.std.specs.List.{list_all, enumerate_from}
use Rattle.xmp_mapping_rules.specs.Numbers.{first_place}
use Rattle.std.specs.Prelude.{is_some}
use Rattle.xmp_mapping_rules.proofs.align_rules.dummies_right.Given as goal

abbrev pub invariant-dummies : goal.invariant-dummies
invariant-dummies l = list_all (λ x. not x.1 || is_some (first_place x.0 l.dimensions)) (enumerate_from 0 l.dummies) ≡ list_all (λ x. not x.1 || is_some (first_place x.0 l.dimensions)) (enumerate_from l.i (drop l.i l.dummies))
