use Rattle.std.proofs.Common.{◌≡◌, ◌<◌, ℕ, length, Some, slice_get, None}
use Rattle.xmp_code.proofs.standing.none_heard.Given as goal

abbrev pub invariant-nodes : goal.invariant-nodes
invariant-nodes l = record {
  long : length l.heard.items ≡ length l.initial.heard.items;
  each : (n : ℕ) → n < l.k → slice_get l.heard.items n ≡ Some None;
}
