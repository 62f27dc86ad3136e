use Rattle.std.proofs.Common.{◌≡◌, drop}
use Rattle.std.specs.List.{list_any}
use Rattle.xmp_loops.specs.Tables.{flag_at}
use Rattle.xmp_loops.specs.Loopers.{loops_in}
use Rattle.xmp_loops.proofs.uncounted.+looping.Given as goal

-- the statements that are left decide
abbrev pub invariant-some_loops-items : goal.invariant-some_loops-items
invariant-some_loops-items l =
    list_any (loops_in l.p (flag_at l.loops)) l.all ≡ list_any (loops_in l.p (flag_at l.loops)) (drop l.x-index l.all)

abbrev pub invariant-some_task_loops-items : goal.invariant-some_task_loops-items
invariant-some_task_loops-items l =
    list_any (λ t. loops_in l.p (flag_at l.loops) t.body) l.all ≡ list_any (λ t. loops_in l.p (flag_at l.loops) t.body) (drop l.t-index l.all)
