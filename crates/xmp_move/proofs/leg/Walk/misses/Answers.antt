use Rattle.xmp_move.proofs.RoundLaws.{misses_are}
use Rattle.xmp_move.proofs.leg.Walk.misses.Goals as goal

pub returns-clause-none : goal.returns-clause-none
returns-clause-none c = λ i l.
    misses_are c.args.reach.now c.args.self.now c.args.k i c.missing.result c.requires.walk.step.0 (rw c.at.ensures at c.missing.ensures.none) l
