use Rattle.std.proofs.Common.{◌≡◌, length}
use Rattle.xmp_code.proofs.beginning.no_messages.Given as goal

abbrev pub invariant-nodes : goal.invariant-nodes
invariant-nodes l = length l.messages.items ≡ l._k
