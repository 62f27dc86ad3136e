use Rattle.std.proofs.Common.{◌≡◌, ◌<◌, ◌≤◌, ◌∙◌, sym, ap, arith, min, false}
use Rattle.xmp_move.specs.Reaches.{reaches}
use Rattle.xmp_move.specs.Axes.{at}
use Rattle.xmp_move.proofs.LegLaws.{span_before, span_after}
use Rattle.xmp_move.proofs.leg.Walk.places.Goals as goal

pub returns-in-Span-clause-before : goal.returns-in-Span-clause-before
returns-in-Span-clause-before c = λ k h l.
    let x = at c.args.self.now k in
    let b = c.below.ensures.below k h in
    ap (λ r. reaches r x) c.in-Span.is ∙ span_before c.in-Span.from c.in-Span.to c.args.extent x (omega arith)

pub returns-in-Span-clause-after : goal.returns-in-Span-clause-after
returns-in-Span-clause-after c = λ k h l.
    let x = at c.args.self.now k in
    let i = c.requires.walk.inside k l in
    let b = c.below-in-Span.ensures.from k (omega arith) in
    ap (λ r. reaches r x) c.in-Span.is ∙ span_after c.in-Span.from c.in-Span.to c.args.extent x (omega arith) i
