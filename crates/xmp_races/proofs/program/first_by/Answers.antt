use Rattle.std.proofs.Common.{sym, subst}
use Rattle.xmp_base.specs.First.{IsFirst}
use Rattle.xmp_base.proofs.FirstLaws.{first_or}
use Rattle.xmp_prog.specs.Fits.{node_count}
use Rattle.xmp_spots.specs.Variables.{image_variables}
use Rattle.xmp_spots.specs.PlanRaces.{BreaksIn}
use Rattle.xmp_races.specs.Syncs.{BreaksAtStop, outermost_rounds, stops_of}
use Rattle.xmp_races.specs.Program.{CoarrayBreaks, plan_of_program}
use Rattle.xmp_races.proofs.program.first_by.Goals as goal

pub returns : goal.returns
returns c =
    let p = c.args.p.now in
    subst (IsFirst (CoarrayBreaks p)) (sym c.earlier.ensures.first)
    (first_or (BreaksIn (plan_of_program p)) (BreaksAtStop 0 (stops_of (node_count p) (image_variables p) p.body outermost_rounds))
    c.in_ok-path.path c.in_ok-stop.stop c.in_ok-path.ensures
    (subst (λ n. IsFirst (BreaksAtStop 0 (stops_of n (image_variables p) p.body outermost_rounds)) c.in_ok-stop.stop) c.count.ensures
    (subst (λ v. IsFirst (BreaksAtStop 0 (stops_of c.count.result v p.body outermost_rounds)) c.in_ok-stop.stop) c.requires c.in_ok-stop.ensures)))
