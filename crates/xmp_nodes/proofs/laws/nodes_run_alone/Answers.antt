use Rattle.xmp_nodes.proofs.SameRuns as lemmas
use Rattle.xmp_nodes.proofs.laws.nodes_run_alone.Goals as goal

pub returns : goal.returns
returns c = lemmas.alone_is_erased
