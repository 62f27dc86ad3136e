use Rattle.std.proofs.Common.{ap, ◌∙◌}
use Rattle.std.proofs.lemmas.Result.{IfOk-weaker}
use Rattle.xmp_races.specs.Statements.{happens}
use Rattle.xmp_races.specs.Views.{setting_of}
use Rattle.xmp_races.proofs.StmtLaws.{from_block, from_counted, from_if, from_loop, from_plain, from_tasks, from_while}
use Rattle.xmp_races.proofs.SiteLaws.{chosen_site, within_site}
use Rattle.xmp_races.proofs.statements.+happens.Goals as goal

pub happens-returns-in-Plain : goal.happens-returns-in-Plain
happens-returns-in-Plain t c = from_plain (setting_of c.args.s.now) c.args.x.now c.plain_events.result c.in-Plain.p c.in-Plain.is c.plain_events.ensures

pub happens-returns-in-Block : goal.happens-returns-in-Block
happens-returns-in-Block t c =
    from_block (setting_of c.args.s.now) c.args.x.now c.block_events.result c.in-Block.all _ c.in-Block.is c.as_slice.ensures c.block_events.ensures

pub happens-returns-in-If : goal.happens-returns-in-If
happens-returns-in-If t c =
    from_if (setting_of c.args.s.now) c.args.x.now c.happens_in_if.result c.in-If.test c.in-If.a c.in-If.b _ _ c.in-If.is
    c.get.ensures c.get-in-If.ensures c.happens_in_if.ensures

pub happens-returns-in-While : goal.happens-returns-in-While
happens-returns-in-While t c =
    from_while (setting_of c.args.s.now) c.args.x.now c.happens_in_while.result c.in-While.test c.in-While.body _ _ c.in-While.is
    c.get-in-While.ensures c.happens_in_while.ensures

pub happens-returns-in-Counted : goal.happens-returns-in-Counted
happens-returns-in-Counted t c =
    from_counted (setting_of c.args.s.now) c.args.x.now c.happens_in_counted.result c.in-Counted.head c.in-Counted.body _ c.in-Counted.is
    c.get-in-Counted.ensures c.happens_in_counted.ensures

pub happens-returns-in-Loop : goal.happens-returns-in-Loop
happens-returns-in-Loop t c =
    from_loop (setting_of c.args.s.now) c.args.x.now c.happens_in_nest.result c.in-Loop.d c.in-Loop.body _ c.in-Loop.is
    c.get-in-Loop.ensures c.happens_in_nest.ensures

pub happens-returns-in-Tasks : goal.happens-returns-in-Tasks
happens-returns-in-Tasks t c =
    from_tasks (setting_of c.args.s.now) c.args.x.now c.tasks_events.result c.in-Tasks.all _ _ c.in-Tasks.is c.as_slice-in-Tasks.ensures c.tasks_events.ensures

pub happens_where-returns : goal.happens_where-returns
happens_where-returns t c =
    IfOk-weaker c.happens.result _ _
    (λ course h. h
    ∙ ap (happens c.args.x.now)
    (chosen_site (setting_of c.args.s.now) c.args.test.now c.args.holding c.in_ok-counts.counts c.as_slice.result.now c.in_ok-counts.ensures c.as_slice.ensures))
    c.happens.ensures

pub happens_within-returns : goal.happens_within-returns
happens_within-returns t c =
    IfOk-weaker c.happens.result _ _
    (λ course h. h
    ∙ ap (happens c.args.x.now)
    (within_site (setting_of c.args.s.now) c.args.h.now c.in_ok-loops.loops c.as_slice.result.now c.in_ok-loops.ensures c.as_slice.ensures))
    c.happens.ensures
