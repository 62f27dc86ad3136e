use Rattle.std.proofs.Common.{sym, ◌∙◌, subst, ◌↔◌, ◌⊎◌, Contains}
use Rattle.xmp_spots.proofs.SummaryLaws.{absorbed_in, united_more, united_less}
use Rattle.xmp_spots.proofs.summary.Summary.unite.Goals as goal

pub returns-in_ok-repeat_early-clause-early : goal.returns-in_ok-repeat_early-clause-early
returns-in_ok-repeat_early-clause-early c = λ t.
    subst (λ l. Contains l t ↔ (Contains c.args.self.now.early t ⊎ Contains c.args.next.early t)) (sym c.in_ok-repeat_early.ensures.rest.0)
    (absorbed_in c.args.self.now.early c.args.next.early c.absorb.new.self c.in-Ok.ensures.ok t)

pub returns-in_ok-repeat_early-clause-late : goal.returns-in_ok-repeat_early-clause-late
returns-in_ok-repeat_early-clause-late c =
    united_more c.args.self.now.late c.args.next.late c.args.self.now.early c.args.next.early c.absorb-2.new.self c.absorb.new.self _ _
    (sym c.either-passes.ensures ∙ c.if-passes.true) c.in_ok-absorb.ensures.ok c.in-Ok.ensures.ok c.in_ok-repeat_early.ensures.late

pub returns-else-passes-clause-early : goal.returns-else-passes-clause-early
returns-else-passes-clause-early c = absorbed_in c.args.self.now.early c.args.next.early c.absorb.new.self c.in-Ok.ensures.ok

pub returns-else-passes-clause-late : goal.returns-else-passes-clause-late
returns-else-passes-clause-late c =
    united_less c.args.self.now.late c.args.next.late c.args.self.now.early c.args.next.early c.absorb-2.new.self _
    (sym c.either-passes.ensures ∙ c.if-passes.false) c.in_ok-absorb.ensures.ok
