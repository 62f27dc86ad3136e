use Rattle.std.proofs.Common.{◌≡◌, drop}
use Rattle.std.specs.List.{list_any, flat_map}
use Rattle.xmp_loops.specs.Tables.{flag_at}
use Rattle.xmp_loops.specs.Loopers.{calls_looping}
use Rattle.xmp_prog.specs.Statements.{terms_of_head}
use Rattle.xmp_loops.proofs.uncounted.heads_call.Given as goal

-- the heads that are left decide
abbrev pub invariant-items : goal.invariant-items
invariant-items l =
    list_any (calls_looping (flag_at l.loops)) (flat_map (terms_of_head l.p) l.nest)
    ≡ list_any (calls_looping (flag_at l.loops)) (flat_map (terms_of_head l.p) (drop l.h-index l.nest))
