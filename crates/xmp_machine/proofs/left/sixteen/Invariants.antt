use Rattle.std.proofs.Common.{◌≡◌, ◌<◌, ℕ, length, get_or}
use Rattle.xmp_machine.proofs.left.sixteen.Given as goal

abbrev pub invariant-nodes : goal.invariant-nodes
invariant-nodes l = record {
  long : length l.all ≡ 16;
  each : (k : ℕ) → k < l.k → get_or l.all k 0 ≡ get_or l.counts k 0;
}
