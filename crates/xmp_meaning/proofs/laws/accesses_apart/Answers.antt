use Rattle.xmp_meaning.proofs.AccessesApart as lemmas
use Rattle.xmp_meaning.proofs.laws.accesses_apart.Goals as goal

pub returns : goal.returns
returns c = lemmas.accesses_apart
