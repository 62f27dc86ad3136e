use Rattle.xmp_meaning.proofs.ReadAndPrint as lemmas
use Rattle.xmp_meaning.proofs.rows.a_number_is_read_and_printed.Goals as goal

pub returns : goal.returns
returns c = lemmas.number_read_and_printed
