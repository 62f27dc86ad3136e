use Rattle.std.proofs.Common.{subst}
use Rattle.xmp_base.specs.First.{IsFirst}
use Rattle.xmp_spots.specs.Races.{ClashBetween}
use Rattle.xmp_spots.proofs.BetweenLaws.{first_swap}
use Rattle.xmp_spots.proofs.accesses.Accesses.between.Goals as goal

pub returns : goal.returns
returns c =
    first_swap c.args.other.now c.args.self.now c.ask_each-2.result
    (subst (λ ts. IsFirst (ClashBetween ts c.args.self.now) c.ask_each-2.result) c.touches-2.ensures c.ask_each-2.ensures)
