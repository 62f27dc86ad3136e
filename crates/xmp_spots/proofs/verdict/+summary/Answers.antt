use Rattle.std.proofs.Common.{subst}
use Rattle.xmp_spots.specs.Courses.{plan_of}
use Rattle.xmp_spots.specs.Summaries.{Sums}
use Rattle.xmp_spots.proofs.CourseLaws.{sums_more}
use Rattle.xmp_spots.proofs.verdict.+summary.Goals as goal

pub summary_of_all-parts-preserved : goal.summary_of_all-parts-preserved
summary_of_all-parts-preserved t c =
    sums_more c.args.parts.now c.parts.part-index c.part-item.result c.parts.all c.in-Ok.next c.follow.new.self c.parts-test.true c.parts.invariant
    (subst (λ x. Sums (plan_of x) c.in-Ok.next) c.part-item.is c.in-Ok.ensures) c.in-Ok-follow.ensures
