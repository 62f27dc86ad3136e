use Rattle.xmp_syntax_laws.proofs.Depths as lemmas
use Rattle.xmp_syntax_laws.proofs.laws.depths_count_open_parts.Goals as goal

pub returns : goal.returns
returns c = record { counts = lemmas.depths_count; reads = lemmas.counts_are_depths }
