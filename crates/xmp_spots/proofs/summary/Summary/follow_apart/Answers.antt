use Rattle.std.proofs.Common.{sym, subst}
use Rattle.xmp_base.specs.First.{IsFirst}
use Rattle.xmp_paths.specs.Plans.{sequence}
use Rattle.xmp_spots.specs.PlanRaces.{BreaksWithin}
use Rattle.xmp_spots.proofs.SummaryLaws.{on_ok_three, follows_apart}
use Rattle.xmp_spots.proofs.summary.Summary.follow_apart.Goals as goal

pub returns-in-Ok : goal.returns-in-Ok
returns-in-Ok c =
    on_ok_three c.append.result _ _ _ _
    (λ early late rest p q hp hq found.
    let k = c.in-Ok.ensures p q hp hq in
    follows_apart p q c.keep_both.new.one c.keep_both.new.other c.append.new.self k.0.1 k.1.1 k.0.0 k.1.0 early late rest.0 rest.1 rest.2
    (subst (IsFirst (BreaksWithin (sequence p q))) (sym rest.3) found))
    c.append.ensures.early c.append.ensures.late c.append.ensures.rest
