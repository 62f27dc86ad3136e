use Rattle.std.proofs.Common.{◌≡◌, ◌++◌, ℕ, ◌+◌, ◌-◌, ◌*◌, map, drop}
use Rattle.xmp_prog.proofs.expressions.Expr.TheLaws.{the_size}
use Rattle.xmp_spots.specs.Courses.{plan_of}
use Rattle.xmp_races.specs.Accesses.{events_of_all}
use Rattle.xmp_races.specs.Views.{setting_of}
use Rattle.xmp_races.proofs.expressions.+events.Given as goal

-- those so far, and those of the expressions that are left, are all
abbrev pub invariant-events_of_each-items : goal.invariant-events_of_each-items
invariant-events_of_each-items l =
    map plan_of l.parts ++ events_of_all (drop l.e-index l.es) (setting_of l.s) ≡ events_of_all l.es (setting_of l.s)

-- depth first; at one depth the forms of an expression, and then the lists of its parts
abbrev pub decreases-events : goal.decreases-events
decreases-events l = 4 * the_size l.e.now

abbrev pub decreases-events_where : goal.decreases-events_where
decreases-events_where l = 4 * the_size l.e.now + 1

abbrev pub decreases-events_or_none : goal.decreases-events_or_none
decreases-events_or_none l = 4 * the_size l.a.now + 1

abbrev pub decreases-events_of_two : goal.decreases-events_of_two
decreases-events_of_two l = 4 * (the_size l.a.now + (the_size l.b.now - the_size l.a.now)) + 1

abbrev pub decreases-events_with_more : goal.decreases-events_with_more
decreases-events_with_more l = 4 * (the_size l.a.now + (the_size l.b.now - the_size l.a.now)) + 2

abbrev pub decreases-events_of_either : goal.decreases-events_of_either
decreases-events_of_either l = 4 * (the_size l.a.now + (the_size l.b.now - the_size l.a.now)) + 2

abbrev pub decreases-events_of_choice : goal.decreases-events_of_choice
decreases-events_of_choice l = let m : ℕ = the_size l.test.now + (the_size l.a.now - the_size l.test.now) in 4 * (m + (the_size l.b.now - m)) + 3

abbrev pub decreases-events_of_call : goal.decreases-events_of_call
decreases-events_of_call l = 4 * goal.size-events_of_call l + 2

abbrev pub decreases-events_of_cell : goal.decreases-events_of_cell
decreases-events_of_cell l = 4 * goal.size-events_of_cell l + 3

abbrev pub decreases-events_of_parts : goal.decreases-events_of_parts
decreases-events_of_parts l = 4 * goal.size-events_of_parts l + 2

abbrev pub decreases-events_of_each : goal.decreases-events_of_each
decreases-events_of_each l = 4 * goal.size-events_of_each l + 1
