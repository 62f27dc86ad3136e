use Rattle.xmp_meaning.proofs.ShiftedReport as lemmas
use Rattle.xmp_meaning.proofs.rows.an_array_is_shifted_and_summed.Goals as goal

pub returns : goal.returns
returns c = lemmas.shifted_reported
