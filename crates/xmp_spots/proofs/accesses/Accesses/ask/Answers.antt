use Rattle.xmp_spots.proofs.AskingLaws.{none_clashes, first_clash}
use Rattle.xmp_spots.proofs.accesses.Accesses.ask.Goals as goal

pub returns-in-None : goal.returns-in-None
returns-in-None c = none_clashes c.args.touch.now c.args.self.now c.in-None.ensures

pub returns-in-Some : goal.returns-in-Some
returns-in-Some c =
    first_clash c.args.touch.now c.args.self.now c.in-Some.other c.refused.result c.earlier.result c.in-Some.ensures c.refused.ensures
    c.earlier.ensures.first
