use Rattle.xmp_move.proofs.GatherLaws.{leg_is}
use Rattle.xmp_move.proofs.gather.next_leg.Goals as goal

pub returns : goal.returns
returns c =
    leg_is c.args.target.now c.args.source.now c.args.slots.now c.in_ok-count.target.now c.followed.result.2.now c.followed-2.result.2.now
    c.in_ok-count.count c.in_ok-count.walk c.followed.result.0 c.followed-2.result.0 c.in_ok-count.needs c.followed.result.1 c.followed-2.result.1
    c.in_ok-count.ensures c.followed.ensures c.followed-2.ensures c.requires.source_fits c.requires.slots_fit
