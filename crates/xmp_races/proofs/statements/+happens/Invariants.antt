use Rattle.std.proofs.Common.{◌≡◌, ◌++◌, ◌∷◌, ◌+◌, ◌-◌, ◌*◌, [], map, drop}
use Rattle.xmp_prog.proofs.statements.Stmt.TheLaws.{the_size}
use Rattle.xmp_paths.specs.Plans.{emit}
use Rattle.xmp_spots.specs.Courses.{in_sequence, plan_of}
use Rattle.xmp_spots.specs.declared.events.Event.TheVariants.{Wrong}
use Rattle.xmp_races.specs.Statements.{happens}
use Rattle.xmp_races.specs.Views.{setting_of}
use Rattle.xmp_races.proofs.statements.+happens.Given as goal

-- those so far, and those of the statements that are left, are all
abbrev pub invariant-block_events-items : goal.invariant-block_events-items
invariant-block_events-items l =
    map plan_of l.parts ++ map (λ x. happens x (setting_of l.s)) (drop l.x-index l.all) ≡ map (λ x. happens x (setting_of l.s)) l.all

abbrev pub invariant-tasks_events-items : goal.invariant-tasks_events-items
invariant-tasks_events-items l =
    map plan_of l.parts ++ map (λ t. in_sequence (emit (Wrong 5 t.at) ∷ happens t.body (setting_of l.s) ∷ [])) (drop l.t-index l.all)
    ≡ emit (Wrong 5 l.fn.at) ∷ map (λ t. in_sequence (emit (Wrong 5 t.at) ∷ happens t.body (setting_of l.s) ∷ [])) l.all

-- depth first; at one depth the forms of a statement, and then the lists of its parts
abbrev pub decreases-happens : goal.decreases-happens
decreases-happens l = 4 * the_size l.x.now

abbrev pub decreases-happens_where : goal.decreases-happens_where
decreases-happens_where l = 4 * the_size l.x.now + 1

abbrev pub decreases-happens_within : goal.decreases-happens_within
decreases-happens_within l = 4 * the_size l.x.now + 1

abbrev pub decreases-happens_in_nest : goal.decreases-happens_in_nest
decreases-happens_in_nest l = 4 * the_size l.x.now + 1

abbrev pub decreases-happens_in_if : goal.decreases-happens_in_if
decreases-happens_in_if l = 4 * (the_size l.a.now + (the_size l.b.now - the_size l.a.now)) + 2

abbrev pub decreases-happens_in_while : goal.decreases-happens_in_while
decreases-happens_in_while l = 4 * the_size l.body.now + 1

abbrev pub decreases-happens_in_counted : goal.decreases-happens_in_counted
decreases-happens_in_counted l = 4 * the_size l.body.now + 2

abbrev pub decreases-block_events : goal.decreases-block_events
decreases-block_events l = 4 * goal.size-block_events l + 1

abbrev pub decreases-task_events : goal.decreases-task_events
decreases-task_events l = 4 * goal.size-task_events l + 1

abbrev pub decreases-tasks_events : goal.decreases-tasks_events
decreases-tasks_events l = 4 * goal.size-tasks_events l + 2
