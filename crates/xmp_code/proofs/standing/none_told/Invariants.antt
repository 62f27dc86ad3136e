use Rattle.std.proofs.Common.{◌≡◌, ◌<◌, ℕ, length, Some, slice_get, false}
use Rattle.xmp_code.proofs.standing.none_told.Given as goal

abbrev pub invariant-nodes : goal.invariant-nodes
invariant-nodes l = record {
  long : length l.told.items ≡ length l.initial.told.items;
  each : (n : ℕ) → n < l.k → slice_get l.told.items n ≡ Some false;
}
