use Rattle.xmp_paths.proofs.NodeSetLaws.{has_marked}
use Rattle.xmp_paths.proofs.node_sets.marked.Goals as goal

pub returns : goal.returns
returns c = λ node. has_marked c.args.was c.args.current c.args.stale node c.ranges.was.fits c.ranges.current.fits
