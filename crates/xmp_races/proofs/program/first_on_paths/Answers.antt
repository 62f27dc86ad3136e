use Rattle.std.proofs.Common.{IfOk, subst}
use Rattle.xmp_base.specs.First.{IsFirst}
use Rattle.xmp_paths.specs.Plans.{Plan}
use Rattle.xmp_spots.specs.declared.events.Event.{Event}
use Rattle.xmp_spots.specs.PlanRaces.{BreaksIn}
use Rattle.xmp_races.proofs.program.first_on_paths.Goals as goal

pub returns : goal.returns
returns c =
    subst (λ (q : Plan Event). IfOk c.judge-found.result (λ found. IsFirst (BreaksIn q) found)) c.in_ok-course.ensures c.judge-found.ensures
