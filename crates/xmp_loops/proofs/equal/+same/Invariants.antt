use Rattle.std.proofs.Common.{◌≡◌, ◌≤◌, ℕ, ◌+◌, ◌-◌, ◌*◌, length, map, drop}
use Rattle.xmp_prog.proofs.expressions.Expr.TheLaws.{the_size}
use Rattle.xmp_loops.specs.Same.{all_pass, same}
use Rattle.xmp_loops.proofs.equal.+same.Given as goal

-- the expressions that are left decide
abbrev pub invariant-all_same-items : goal.invariant-all_same-items
invariant-all_same-items l = record {
  rest : all_pass (map same l.es) l.xs ≡ all_pass (map same (drop l.k l.es)) (drop l.k l.xs);
  within : l.k ≤ length l.xs;
}

-- depth first; at one depth the forms of an expression, and then the lists of its parts
abbrev pub decreases-same : goal.decreases-same
decreases-same l = 4 * the_size l.e.now

abbrev pub decreases-same_binary : goal.decreases-same_binary
decreases-same_binary l = 4 * (the_size l.a.now + (the_size l.b.now - the_size l.a.now)) + 1

abbrev pub decreases-same_both : goal.decreases-same_both
decreases-same_both l = 4 * (the_size l.a.now + (the_size l.b.now - the_size l.a.now)) + 1

abbrev pub decreases-same_either : goal.decreases-same_either
decreases-same_either l = 4 * (the_size l.a.now + (the_size l.b.now - the_size l.a.now)) + 1

abbrev pub decreases-same_choice : goal.decreases-same_choice
decreases-same_choice l = let m : ℕ = the_size l.a.now + (the_size l.b.now - the_size l.a.now) in 4 * (m + (the_size l.c.now - m)) + 1

abbrev pub decreases-same_converted : goal.decreases-same_converted
decreases-same_converted l = 4 * the_size l.a.now + 1

abbrev pub decreases-same_call : goal.decreases-same_call
decreases-same_call l = 4 * goal.size-same_call l + 2

abbrev pub decreases-same_access : goal.decreases-same_access
decreases-same_access l = 4 * goal.size-same_access l + 2

abbrev pub decreases-all_same : goal.decreases-all_same
decreases-all_same l = 4 * goal.size-all_same l + 1
