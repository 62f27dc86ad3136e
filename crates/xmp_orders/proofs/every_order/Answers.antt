use Rattle.xmp_orders.proofs.Runs.{all_end}
use Rattle.xmp_orders.proofs.Rounds.{firsts_pick}
use Rattle.xmp_orders.proofs.every_order.Goals as goal

pub returns-clause-ends : goal.returns-clause-ends
returns-clause-ends g c = all_end c.requires.progress

pub returns-clause-ordered : goal.returns-clause-ordered
returns-clause-ordered g c = firsts_pick g.T.Moving.movers
