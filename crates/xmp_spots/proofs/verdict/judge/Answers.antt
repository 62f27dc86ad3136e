use Rattle.xmp_spots.specs.Courses.{plan_of}
use Rattle.xmp_spots.proofs.SummaryLaws.{first_in_plan}
use Rattle.xmp_spots.proofs.verdict.judge.Goals as goal

pub returns : goal.returns
returns c = first_in_plan (plan_of c.args.course.now) c.in_ok-summary.summary.found c.in_ok-summary.ensures.found
