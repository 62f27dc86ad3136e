use Rattle.xmp_meaning_laws.proofs.TupleOrder as lemmas
use Rattle.xmp_meaning_laws.proofs.nest_laws.tuples_rise.Goals as goal

pub returns : goal.returns
returns c p heads writes = lemmas.all_tuples_rise p heads writes
