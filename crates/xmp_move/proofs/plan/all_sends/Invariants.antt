use Rattle.std.proofs.Common.{◌≡◌, map}
use Rattle.std.specs.List.{range_with_len}
use Rattle.xmp_move.specs.Plans.{sends_to}
use Rattle.xmp_move.proofs.plan.all_sends.Given as goal

abbrev pub invariant-loop-to : goal.invariant-loop-to
invariant-loop-to l = l.lists ≡ map (sends_to l.kind l.args l.node) (range_with_len 0 l.to)
