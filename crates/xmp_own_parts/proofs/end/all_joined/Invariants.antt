use Rattle.std.proofs.Common.{◌≡◌}
use Rattle.xmp_meaning.specs.LoopEnds.{all_joined, no_turn}
use Rattle.xmp_own_parts.proofs.end.all_joined.Given as goal

abbrev pub invariant-ends : goal.invariant-ends
invariant-ends l = l.so_far ≡ all_joined l.p l.reductions (no_turn l.p l.reductions) l.yielded
