use Rattle.std.proofs.Common.{refl, sym, ◌∙◌}
use Rattle.xmp_spots.proofs.SummaryLaws.{turns_nothing, turns_more, neither}
use Rattle.xmp_spots.proofs.summary.Summary.turn.Goals as goal

pub returns-then-either : goal.returns-then-either
returns-then-either c = λ p h. turns_nothing p c.args.self.now (sym c.either.ensures ∙ c.if-either.true) h

pub returns : goal.returns
returns c = λ p h.
    let rest = c.in_ok-repeat_early.ensures.rest in
    turns_more p c.args.self.now _ c.between.result (neither _ _ (sym c.either.ensures ∙ c.if-either.false)) h c.between.ensures
    rest.0 c.in_ok-repeat_early.ensures.late rest.1 refl (rest.4 ∙ c.earlier-self.ensures.first)
