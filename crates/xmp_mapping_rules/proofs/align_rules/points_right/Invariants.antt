use Rattle.std.proofs.Common.{◌≡◌, drop}
use Rattle.std.specs.List.{list_all, enumerate_from, slice_get}
use Rattle.xmp_names.specs.Sizes.{lower_at}
use Rattle.xmp_mapping_rules.specs.MappingRules.{point_fits, distributes}
use Rattle.xmp_mapping_rules.proofs.align_rules.points_right.Given as goal

abbrev pub invariant-points : goal.invariant-points
invariant-points l = list_all (λ x. point_fits l.extents (distributes (slice_get l.forms x.0)) (lower_at l.lowers x.0) (slice_get l.sizes x.0) x.1) (enumerate_from 0 l.points) ≡ list_all (λ x. point_fits l.extents (distributes (slice_get l.forms x.0)) (lower_at l.lowers x.0) (slice_get l.sizes x.0) x.1) (enumerate_from l.i (drop l.i l.points))
