use Rattle.std.proofs.Common.{ap}
use Rattle.xmp_paths.specs.Flows.{plan_of}
use Rattle.xmp_prog.specs.Numbers.{is_in}
use Rattle.xmp_loops.specs.Tables.{role_at}
use Rattle.xmp_flow.specs.Views.{setting_of}
use Rattle.xmp_flow.proofs.ReadyLaws.{directive_by, inside_of}
use Rattle.xmp_flow.proofs.EventLaws.{from_block, from_if, from_loop, from_tasks}
use Rattle.xmp_flow.proofs.statements.+events.Goals as goal

pub events_ready-returns : goal.events_ready-returns
events_ready-returns t c =
    directive_by c.args.ready.now c.args.d.now c.args.body.now c.requires.ready (setting_of c.args.s.now) _ _ (plan_of c.in_ok-turn.turn) c.around.result
    (ap (λ n. record (inside_of (setting_of c.args.s.now) c.args.d.now (role_at c.args.ready.now.before) (is_in c.args.ready.now.written)) { nodes = n }) c.requires.here)
    (ap (λ n. record (inside_of (setting_of c.args.s.now) c.args.d.now (role_at c.args.ready.now.roles) (is_in c.args.ready.now.written)) { nodes = n }) c.requires.here)
    c.in_ok-turn.ensures c.around.ensures

pub events-returns-in-Block : goal.events-returns-in-Block
events-returns-in-Block t c =
    from_block (setting_of c.args.s.now) c.args.x.now c.block_events.result c.in-Block.all _ c.in-Block.is c.as_slice.ensures c.block_events.ensures

pub events-returns-in-Tasks : goal.events-returns-in-Tasks
events-returns-in-Tasks t c =
    from_tasks (setting_of c.args.s.now) c.args.x.now c.tasks_events.result c.in-Tasks.all _ _ c.in-Tasks.is c.as_slice-in-Tasks.ensures c.tasks_events.ensures

pub events-returns-in-Loop : goal.events-returns-in-Loop
events-returns-in-Loop t c =
    from_loop (setting_of c.args.s.now) c.args.x.now c.directive_events.result c.in-Loop.d c.in-Loop.body _ c.in-Loop.is c.get-in-Loop.ensures c.directive_events.ensures

pub events-returns-in-If : goal.events-returns-in-If
events-returns-in-If t c =
    from_if (setting_of c.args.s.now) c.args.x.now c.events_of_if.result c.in-If.test c.in-If.a c.in-If.b _ _ c.in-If.is
    c.get.ensures c.get-in-If.ensures c.events_of_if.ensures
