use Rattle.std.proofs.Common.{refl}
use Rattle.xmp_steps.specs.Machine.{Now, On}
use Rattle.xmp_steps.specs.Examples.{countdown, from_nine}
use Rattle.xmp_steps.proofs.Feeding.{fed_stops}
use Rattle.xmp_steps.proofs.countdown_stops_twice.Goals as goal

pub returns-clause-number : goal.returns-clause-number
returns-clause-number c = (2, (refl, refl))

pub returns-clause-both : goal.returns-clause-both
returns-clause-both c =
    fed_stops countdown from_nine 12 0 _
    (On refl (On refl (On refl (On refl (On refl (On refl (On refl (On refl (On refl (On refl (On refl (On refl (Now refl)))))))))))))
    refl
