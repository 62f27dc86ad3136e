use Rattle.xmp_nodes.proofs.Theorem as lemmas
use Rattle.xmp_nodes.proofs.laws.worlds_answer.Goals as goal

pub returns : goal.returns
returns c = lemmas.worlds_answer
