use Rattle.xmp_script.proofs.Orders.{gets_see, last_words}
use Rattle.xmp_script.proofs.LastPuts.{sees_last_put}
use Rattle.xmp_script.proofs.Plays.{in_every_order}
use Rattle.xmp_script.proofs.Walkers.{walkers_carry}
use Rattle.xmp_script.specs.Walkers.{walkers}
use Rattle.xmp_script.proofs.every_order.Goals as goal

pub returns : goal.returns
returns g c = record {
  get = λ s free w k e r lk may. gets_see s w k e free r lk may;
  last = λ s free w e r some all. last_words s w e free r some all;
  one_seen = sees_last_put;
  synced = λ s free images phases. in_every_order (walkers s) s (walkers_carry s free images phases);
  played = in_every_order;
}
