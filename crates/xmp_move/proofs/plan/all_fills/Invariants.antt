use Rattle.std.proofs.Common.{◌≡◌, map}
use Rattle.std.specs.List.{range_with_len}
use Rattle.xmp_move.specs.Plans.{fills_from}
use Rattle.xmp_move.proofs.plan.all_fills.Given as goal

abbrev pub invariant-loop-from : goal.invariant-loop-from
invariant-loop-from l = l.lists ≡ map (fills_from l.kind l.args l.node) (range_with_len 0 l.from)
