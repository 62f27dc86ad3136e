use Rattle.std.proofs.Common.{arith, max}
use Rattle.xmp_move.specs.Reaches.{reaches}
use Rattle.xmp_move.specs.Axes.{at}
use Rattle.xmp_move.proofs.RoundLaws.{next_none}
use Rattle.xmp_move.proofs.leg.Leg.next.Goals as goal

pub returns-clause-none : goal.returns-clause-none
returns-clause-none c = λ j l u.
    let leg = c.args.self.now in
    next_none (λ k. reaches leg.needs (at leg.target k)) (λ k. reaches leg.gives (at leg.source k)) c.args.k c.misses-a.result c.misses-b.result j
    c.requires.fails c.misses-a.ensures.none c.misses-b.ensures.none l (omega (arith, u))
