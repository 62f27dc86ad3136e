use Rattle.std.proofs.Common.{map, take}
use Rattle.xmp_spots.specs.Courses.{in_sequence, plan_of}
use Rattle.xmp_spots.specs.Summaries.{Sums}
use Rattle.xmp_spots.proofs.verdict.+summary.Given as goal

-- the summary so far is of the parts so far
abbrev pub invariant-summary_of_all-parts : goal.invariant-summary_of_all-parts
invariant-summary_of_all-parts l = Sums (in_sequence (map plan_of (take l.part-index l.parts))) l.all
