use Rattle.xmp_meaning.proofs.TrapsRead as lemmas
use Rattle.xmp_meaning.proofs.traffic_laws.ends_are_read_back.Goals as goal

pub returns : goal.returns
returns c = lemmas.ends_are_read
