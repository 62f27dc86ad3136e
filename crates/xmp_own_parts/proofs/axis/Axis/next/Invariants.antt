use Rattle.std.proofs.Common.{◌≢◌, ◌-◌, ◌<◌, ◌≤◌, ℕ}
use Rattle.xmp_dist.specs.Owner.{owner}
use Rattle.xmp_own_parts.specs.Turns.{position_in_turn}
use Rattle.xmp_own_parts.proofs.axis.Axis.next.Given as goal

abbrev pub invariant-turns : goal.invariant-turns
invariant-turns l = record {
  from : l.fn.from ≤ l.k;
  upto : l.k ≤ l.turns.count;
  node : l.self.node < l.self.dim.now.nodes;
  least : (j : ℕ) → l.fn.from ≤ j → j < l.k → owner l.self.dim.now (position_in_turn l.turns l.self.offset j) ≢ l.self.node;
}

abbrev pub decreases-turns : goal.decreases-turns
decreases-turns l = l.turns.count - l.k
