use Rattle.xmp_meaning_laws.proofs.Folds as lemmas
use Rattle.xmp_meaning_laws.proofs.nest_laws.tuples_are_known.Goals as goal

pub returns : goal.returns
returns c p heads writes = lemmas.tuples_are_known p heads writes
