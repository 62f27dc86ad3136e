use Rattle.std.proofs.Common.{◌≡◌, ℕ, zero, suc, ◌+◌, ◌%◌, ◌<◌, refl, arith}
use Rattle.xmp_orders.specs.Movers.{AlreadyEnded, rounds}
use Rattle.xmp_orders.proofs.Rounds.{firsts_pick}
use Rattle.xmp_net.specs.Nodes.{answer, movers}
use Rattle.xmp_net.specs.Laws.{after}
use Rattle.xmp_net.specs.Examples.{pair, told, in_turn}
use Rattle.xmp_net.proofs.Orders.{in_every_order}
use Rattle.xmp_net.proofs.Tables.{tabled}
use Rattle.xmp_net.proofs.Pair.{pair_carries}
use Rattle.xmp_net.proofs.two_nodes_carry.Goals as goal

-- node by node
ended : (k : ℕ) → k < 2 → answer pair (after pair (rounds 2 3)) k ≡ AlreadyEnded
ended zero lt = refl
ended (suc zero) lt = refl
ended (suc (suc k)) lt = absurd (omega arith)

pub returns : goal.returns
returns c = record {
  carry = pair_carries;
  table = tabled pair told 0 pair_carries;
  chosen = (in_every_order pair told pair_carries).chosen in_turn
      (firsts_pick (movers pair) (λ x. x % 2) (λ x. x + 1) (λ x. omega arith));
  ended = ended;
  zero = refl;
  one = refl;
}
