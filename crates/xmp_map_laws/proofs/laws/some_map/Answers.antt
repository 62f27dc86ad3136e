use Rattle.xmp_map_laws.proofs.Made as lemmas
use Rattle.xmp_map_laws.proofs.laws.some_map.Goals as goal

pub returns : goal.returns
returns c = lemmas.some_map
