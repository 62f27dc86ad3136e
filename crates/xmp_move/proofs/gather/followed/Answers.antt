use Rattle.xmp_move.proofs.GatherLaws.{followed_none}
use Rattle.xmp_move.proofs.gather.followed.Goals as goal

pub returns-in-None : goal.returns-in-None
returns-in-None c = followed_none c.args.count c.args.axes.now c.in-None.ensures c.requires.fits c.requires.small
