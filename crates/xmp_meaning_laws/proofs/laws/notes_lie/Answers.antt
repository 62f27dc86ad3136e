use Rattle.xmp_meaning_laws.proofs.NotedTypes as lemmas
use Rattle.xmp_meaning_laws.proofs.laws.notes_lie.Goals as goal

pub returns : goal.returns
returns c = lemmas.all_notes_lie
