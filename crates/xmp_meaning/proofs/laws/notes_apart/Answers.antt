use Rattle.xmp_meaning.proofs.Notes as lemmas
use Rattle.xmp_meaning.proofs.laws.notes_apart.Goals as goal

pub returns : goal.returns
returns c = record { statements = lemmas.notes_apart; outcome = lemmas.traced_is_serial }
