use Rattle.std.proofs.Common.{◌≡◌, ◌||◌, not, drop}
use Rattle.std.specs.List.{list_all, enumerate_from, slice_get}
use Rattle.xmp_mapping_rules.specs.MappingRules.{distributes}
use Rattle.xmp_mapping_rules.proofs.shadow_rules.indexed_right.Given as goal

abbrev pub invariant-points : goal.invariant-points
invariant-points l = list_all (λ x. x.1 || not (distributes (slice_get l.forms x.0))) (enumerate_from 0 l.indexed) ≡ list_all (λ x. x.1 || not (distributes (slice_get l.forms x.0))) (enumerate_from l.i (drop l.i l.indexed))
