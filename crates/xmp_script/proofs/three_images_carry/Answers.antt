use Rattle.std.proofs.Common.{◌+◌, ◌%◌, refl, arith}
use Rattle.xmp_orders.proofs.Rounds.{firsts_pick}
use Rattle.xmp_script.specs.Laws.{movers_of}
use Rattle.xmp_script.specs.Examples.{round_robin, keepers, in_turn}
use Rattle.xmp_script.proofs.LastPuts.{sees_last_put}
use Rattle.xmp_script.proofs.Plays.{in_every_order}
use Rattle.xmp_script.proofs.RoundRobin.{is_free, keepers_carry, keepers_end}
use Rattle.xmp_script.proofs.three_images_carry.Goals as goal

pub returns : goal.returns
returns c = record {
  free = is_free;
  seen = (refl, refl, refl);
  last_put = (sees_last_put round_robin is_free 0 1 0 0).0;
  carry = keepers_carry;
  chosen = (in_every_order keepers round_robin keepers_carry).orders.chosen in_turn
      (firsts_pick (movers_of keepers round_robin) (λ x. x % 3) (λ x. x + 1) (λ x. omega arith));
  ended = keepers_end;
  first = refl;
}
