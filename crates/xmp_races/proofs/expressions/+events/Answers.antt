use Rattle.std.proofs.Common.{◌∙◌, ap, sym, Some, map}
use Rattle.std.proofs.lemmas.Result.{IfOk-weaker}
use Rattle.xmp_spots.specs.Courses.{plan_of}
use Rattle.xmp_races.specs.Views.{setting_of}
use Rattle.xmp_races.proofs.ExprLaws.{from_call, from_cell, from_choice, parts_none, parts_some}
use Rattle.xmp_races.proofs.SiteLaws.{chosen_site}
use Rattle.xmp_races.specs.Accesses.{events_of}
use Rattle.xmp_races.proofs.expressions.+events.Goals as goal

pub events-returns-in-Cell : goal.events-returns-in-Cell
events-returns-in-Cell t c = from_cell (setting_of c.args.s.now) c.args.e.now c.events_of_cell.result c.in-Cell.access c.in-Cell.is c.events_of_cell.ensures

pub events-returns-in-Choose : goal.events-returns-in-Choose
events-returns-in-Choose t c =
    from_choice (setting_of c.args.s.now) c.args.e.now c.events_of_choice.result c.in-Choose.a c.in-Choose.b c.in-Choose.c _ _ _ c.in-Choose.is
    c.get-in-Choose.ensures c.get-in-Choose-2.ensures c.get-in-Choose-3.ensures c.events_of_choice.ensures

pub events-returns-in-Call : goal.events-returns-in-Call
events-returns-in-Call t c =
    from_call (setting_of c.args.s.now) c.args.e.now c.events_of_call.result c.in-Call.function c.in-Call.arguments _ c.in-Call.at c.in-Call.is
    c.as_slice.ensures c.events_of_call.ensures

pub events_of_parts-returns-in-None : goal.events_of_parts-returns-in-None
events_of_parts-returns-in-None t c =
    parts_none c.args.a.now (setting_of c.args.s.now) c.as_slice.result.now (map plan_of c.in_ok-parts.parts) c.as_slice.ensures c.in-None.is
    c.in_ok-parts.ensures

pub events_of_parts-returns-in-Ok : goal.events_of_parts-returns-in-Ok
events_of_parts-returns-in-Ok t c =
    IfOk-weaker c.one_more.result _ _
    (λ all h. h
    ∙ parts_some c.args.a.now (setting_of c.args.s.now) c.as_slice.result.now c.get.result.now (map plan_of c.in_ok-parts.parts) _
    c.as_slice.ensures (c.in-Some.is ∙ ap Some (sym c.get.ensures)) c.in_ok-parts.ensures c.in-Ok.ensures)
    c.one_more.ensures

pub events_where-returns : goal.events_where-returns
events_where-returns t c =
    IfOk-weaker c.events.result _ _
    (λ course h. h
    ∙ ap (events_of c.args.e.now)
    (chosen_site (setting_of c.args.s.now) c.args.test.now c.args.holding c.in_ok-counts.counts c.as_slice.result.now c.in_ok-counts.ensures c.as_slice.ensures))
    c.events.ensures
