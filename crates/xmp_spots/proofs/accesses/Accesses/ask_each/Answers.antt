use Rattle.std.proofs.Common.{subst}
use Rattle.xmp_base.specs.First.{IsFirst}
use Rattle.xmp_spots.specs.Races.{ClashesWith}
use Rattle.xmp_spots.proofs.BetweenLaws.{first_next, first_all}
use Rattle.xmp_spots.proofs.accesses.Accesses.ask_each.Goals as goal

pub touches-preserved : goal.touches-preserved
touches-preserved c =
    first_next c.args.touches.now c.touches.touch-index _ c.args.self.now c.touches.found c.ask.result c.earlier-found.result
    c.touches-test.true c.touches.invariant (subst (λ t. IsFirst (ClashesWith t c.args.self.now) c.ask.result) c.touch-item.is c.ask.ensures) c.earlier-found.ensures.first
