use Rattle.xmp_meaning.proofs.Unrolled as lemmas
use Rattle.xmp_meaning.proofs.laws.loops_unroll.Goals as goal

pub returns : goal.returns
returns c start p node input n e body = lemmas.loop_unrolls _ p node input n e body
