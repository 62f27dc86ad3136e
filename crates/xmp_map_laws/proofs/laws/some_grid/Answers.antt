use Rattle.xmp_map_laws.proofs.Made as lemmas
use Rattle.xmp_map_laws.proofs.laws.some_grid.Goals as goal

pub returns : goal.returns
returns c = lemmas.some_grid
