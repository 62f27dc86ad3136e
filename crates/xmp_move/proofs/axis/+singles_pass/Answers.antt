use Rattle.std.proofs.Common.{◌≡◌, ◌∙◌, sym, ap}
use Rattle.std.specs.Prelude.{◌&&◌}
use Rattle.xmp_move.specs.Picks.{singles_pass}
use Rattle.xmp_move.specs.Axes.{picks, tests}
use Rattle.xmp_move.proofs.GatherLaws.{pass_none, pass_single, pass_section}
use Rattle.xmp_move.proofs.axis.+singles_pass.Goals as goal

pub returns-in-None : goal.returns-in-None
returns-in-None n c = pass_none c.args.axes.now c.in-None.ensures

pub returns-then-has : goal.returns-then-has
returns-then-has n c =
    let axes = c.in-Some.axes.now in
    c.singles_pass.ensures ∙ ap (λ b. b && singles_pass (picks axes) (tests axes)) (sym c.if-has.true ∙ c.has.ensures)
    ∙ pass_single c.args.axes.now axes c.in-Some.axis.now c.in-Single.x c.in-Some.ensures c.in-Single.is

pub returns-else-has : goal.returns-else-has
returns-else-has n c =
    let axes = c.in-Some.axes.now in
    c.if-has.false ∙ ap (λ b. b && singles_pass (picks axes) (tests axes)) (sym c.if-has.false ∙ c.has.ensures)
    ∙ pass_single c.args.axes.now axes c.in-Some.axis.now c.in-Single.x c.in-Some.ensures c.in-Single.is

pub returns-in-Section : goal.returns-in-Section
returns-in-Section n c =
    c.singles_pass-in-Section.ensures
    ∙ pass_section c.args.axes.now c.in-Some.axes.now c.in-Some.axis.now c.in-Section.first c.in-Section.count c.in-Section.step c.in-Some.ensures c.in-Section.is
