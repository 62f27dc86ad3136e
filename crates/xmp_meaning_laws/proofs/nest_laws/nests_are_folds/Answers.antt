use Rattle.xmp_meaning_laws.proofs.Folds as lemmas
use Rattle.xmp_meaning_laws.proofs.nest_laws.nests_are_folds.Goals as goal

pub returns : goal.returns
returns c start h cx heads writes body = lemmas.nest_is_fold _ h cx heads writes body
