use Rattle.std.proofs.Common.{◌≡◌, ◌++◌, map, drop}
use Rattle.xmp_spots.specs.Courses.{plan_of}
use Rattle.xmp_races.specs.Program.{outermost}
use Rattle.xmp_races.specs.Statements.{happens}
use Rattle.xmp_races.proofs.program.course.Given as goal

abbrev pub invariant-functions : goal.invariant-functions
invariant-functions l =
    map plan_of l.parts ++ map (λ f. happens f.body (outermost l.p)) (drop l.f-index l.p.functions)
    ≡ map (λ f. happens f.body (outermost l.p)) l.p.functions
