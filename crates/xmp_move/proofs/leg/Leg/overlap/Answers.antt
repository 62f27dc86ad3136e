use Rattle.std.proofs.Common.{◌≡◌, ◌<◌, ◌≤◌, arith, min, max}
use Rattle.xmp_move.specs.Reaches.{reaches}
use Rattle.xmp_move.specs.Axes.{at}
use Rattle.xmp_move.proofs.LegLaws.{none_before, none_after}
use Rattle.xmp_move.proofs.leg.Leg.overlap.Goals as goal

pub returns-clause-before : goal.returns-clause-before
returns-clause-before c = λ k h.
    let leg = c.args.self.now in
    none_before (λ k. reaches leg.needs (at leg.target k)) (λ k. reaches leg.gives (at leg.source k)) c.places-a.result.0 c.places-c.result.0 c.min-to.result k leg.count
    (omega arith) c.places-a.ensures.before c.places-c.ensures.before (omega arith)

pub returns-clause-after : goal.returns-clause-after
returns-clause-after c = λ k h l.
    let leg = c.args.self.now in
    none_after (λ k. reaches leg.needs (at leg.target k)) (λ k. reaches leg.gives (at leg.source k)) c.places-a.result.1 c.places-c.result.1 k leg.count
    c.places-a.ensures.after c.places-c.ensures.after (omega arith) l
