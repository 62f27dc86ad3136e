use Rattle.std.proofs.Common.{ℕ, ◌≡◌, ◌≤◌, ◌-◌}
use Rattle.xmp_move.specs.Legs.{leg_test}
use Rattle.xmp_move.proofs.RepeatLaws.{passing}
use Rattle.xmp_move.proofs.leg.Leg.passing.Given as goal

abbrev pub invariant-loop-k : goal.invariant-loop-k
invariant-loop-k l = record {
  from : l.from ≤ l.k;
  to : l.k ≤ l.to;
  places : l.out.items ≡ passing (leg_test l.self) l.from (l.k - l.from);
}

abbrev pub decreases-loop-k : goal.decreases-loop-k
decreases-loop-k l = l.to - l.k
