use Rattle.std.proofs.Common.{◌≡◌, ◌++◌, ◌∷◌, ◌+◌, ◌-◌, ◌*◌, map, drop}
use Rattle.xmp_prog.proofs.statements.Stmt.TheLaws.{the_size}
use Rattle.xmp_paths.specs.Flows.{plan_of}
use Rattle.xmp_flow.specs.Setting.{in_task, wrong_where}
use Rattle.xmp_flow.specs.Statements.{events_of}
use Rattle.xmp_flow.specs.Views.{setting_of}
use Rattle.xmp_flow.proofs.statements.+events.Given as goal

-- those so far, and those of the statements that are left, are all
abbrev pub invariant-block_events-items : goal.invariant-block_events-items
invariant-block_events-items l =
    map plan_of l.parts ++ map (λ x. events_of x (setting_of l.s)) (drop l.x-index l.all) ≡ map (λ x. events_of x (setting_of l.s)) l.all

abbrev pub invariant-tasks_events-items : goal.invariant-tasks_events-items
invariant-tasks_events-items l =
    map plan_of l.parts ++ map (λ t. events_of t.body (in_task (setting_of l.s) t.nodes)) (drop l.t-index l.all)
    ≡ wrong_where (setting_of l.s).inside 10 l.fn.at ∷ map (λ t. events_of t.body (in_task (setting_of l.s) t.nodes)) l.all

-- depth first; at one depth the forms of a statement, and then the lists of its parts
abbrev pub decreases-events : goal.decreases-events
decreases-events l = 4 * the_size l.x.now

abbrev pub decreases-events_of_if : goal.decreases-events_of_if
decreases-events_of_if l = 4 * (the_size l.a.now + (the_size l.b.now - the_size l.a.now)) + 1

abbrev pub decreases-events_of_while : goal.decreases-events_of_while
decreases-events_of_while l = 4 * the_size l.body.now + 1

abbrev pub decreases-events_of_counted : goal.decreases-events_of_counted
decreases-events_of_counted l = 4 * the_size l.body.now + 1

abbrev pub decreases-block_events : goal.decreases-block_events
decreases-block_events l = 4 * goal.size-block_events l + 1

abbrev pub decreases-directive_events : goal.decreases-directive_events
decreases-directive_events l = 4 * the_size l.body.now + 2

abbrev pub decreases-events_ready : goal.decreases-events_ready
decreases-events_ready l = 4 * the_size l.body.now + 1

abbrev pub decreases-task_events : goal.decreases-task_events
decreases-task_events l = 4 * goal.size-task_events l + 1

abbrev pub decreases-tasks_events : goal.decreases-tasks_events
decreases-tasks_events l = 4 * goal.size-tasks_events l + 2
