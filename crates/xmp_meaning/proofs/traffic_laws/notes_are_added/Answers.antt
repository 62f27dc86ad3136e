use Rattle.xmp_meaning.proofs.NotesAdded as lemmas
use Rattle.xmp_meaning.proofs.traffic_laws.notes_are_added.Goals as goal

pub returns : goal.returns
returns c = lemmas.notes_added
