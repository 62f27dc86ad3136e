use Rattle.xmp_meaning.proofs.FormatLaws as lemmas
use Rattle.xmp_meaning.proofs.laws.formats_are_read.Goals as goal

pub returns : goal.returns
returns c = lemmas.formats_read
