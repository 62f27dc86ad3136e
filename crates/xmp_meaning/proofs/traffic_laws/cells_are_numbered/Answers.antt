use Rattle.xmp_meaning.proofs.Slots as lemmas
use Rattle.xmp_meaning.proofs.traffic_laws.cells_are_numbered.Goals as goal

pub returns : goal.returns
returns c = record { whole = lemmas.whole_numbers; held = lemmas.held_numbers }
