use Rattle.xmp_meaning.proofs.StoresLaid as lemmas
use Rattle.xmp_meaning.proofs.traffic_laws.stores_are_laid.Goals as goal

pub returns : goal.returns
returns c start = record { laid = lemmas.stores_laid _; first = lemmas.begins_laid }
