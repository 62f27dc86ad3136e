use Rattle.xmp_meaning_laws.proofs.OwnTuples as lemmas
use Rattle.xmp_meaning_laws.proofs.nest_laws.parts_are_folds.Goals as goal

pub returns : goal.returns
returns c start h cx directive writes node body = lemmas.part_is_fold _ h cx directive writes node body
