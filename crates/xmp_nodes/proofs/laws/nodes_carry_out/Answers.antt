use Rattle.xmp_nodes.proofs.Theorem as lemmas
use Rattle.xmp_nodes.proofs.laws.nodes_carry_out.Goals as goal

pub returns : goal.returns
returns c = lemmas.nodes_carry_out
