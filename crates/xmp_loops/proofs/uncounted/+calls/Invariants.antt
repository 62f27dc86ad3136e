use Rattle.std.proofs.Common.{◌≡◌, drop}
use Rattle.std.specs.List.{list_any}
use Rattle.xmp_loops.specs.Tables.{flag_at}
use Rattle.xmp_loops.specs.Loopers.{calls_looping}
use Rattle.xmp_prog.specs.Terms.{terms_of_list}
use Rattle.xmp_loops.proofs.uncounted.+calls.Given as goal

-- the expressions that are left decide
abbrev pub invariant-any_calls-items : goal.invariant-any_calls-items
invariant-any_calls-items l =
    list_any (calls_looping (flag_at l.loops)) (terms_of_list l.p l.es) ≡ list_any (calls_looping (flag_at l.loops)) (terms_of_list l.p (drop l.e-index l.es))
