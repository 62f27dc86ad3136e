use Rattle.std.proofs.Common.{◌≡◌, ◌++◌, ℕ, ◌+◌, ◌-◌, ◌*◌, map, drop}
use Rattle.xmp_prog.proofs.expressions.Expr.TheLaws.{the_size}
use Rattle.xmp_paths.specs.Flows.{plan_of}
use Rattle.xmp_flow.specs.Reads.{reads_of_all}
use Rattle.xmp_flow.specs.Views.{setting_of}
use Rattle.xmp_flow.proofs.expressions.+reads.Given as goal

-- the reads so far, and those of the expressions that are left, are all
abbrev pub invariant-reads_of_each-items : goal.invariant-reads_of_each-items
invariant-reads_of_each-items l =
    map plan_of l.parts ++ reads_of_all (drop l.e-index l.es) (setting_of l.s) ≡ reads_of_all l.es (setting_of l.s)

-- depth first; at one depth the forms of an expression, and then the lists of its parts
abbrev pub decreases-reads : goal.decreases-reads
decreases-reads l = 4 * the_size l.e.now

abbrev pub decreases-reads_of_both : goal.decreases-reads_of_both
decreases-reads_of_both l = 4 * (the_size l.a.now + (the_size l.b.now - the_size l.a.now)) + 1

abbrev pub decreases-reads_of_either : goal.decreases-reads_of_either
decreases-reads_of_either l = 4 * (the_size l.a.now + (the_size l.b.now - the_size l.a.now)) + 1

abbrev pub decreases-reads_or_none : goal.decreases-reads_or_none
decreases-reads_or_none l = 4 * the_size l.a.now + 1

abbrev pub decreases-reads_with_more : goal.decreases-reads_with_more
decreases-reads_with_more l = 4 * (the_size l.a.now + (the_size l.b.now - the_size l.a.now)) + 2

abbrev pub decreases-reads_of_choice : goal.decreases-reads_of_choice
decreases-reads_of_choice l = let m : ℕ = the_size l.test.now + (the_size l.a.now - the_size l.test.now) in 4 * (m + (the_size l.b.now - m)) + 2

abbrev pub decreases-reads_of_call : goal.decreases-reads_of_call
decreases-reads_of_call l = 4 * goal.size-reads_of_call l + 2

abbrev pub decreases-reads_of_cell : goal.decreases-reads_of_cell
decreases-reads_of_cell l = 4 * goal.size-reads_of_cell l + 2

abbrev pub decreases-reads_of_each : goal.decreases-reads_of_each
decreases-reads_of_each l = 4 * goal.size-reads_of_each l + 1
