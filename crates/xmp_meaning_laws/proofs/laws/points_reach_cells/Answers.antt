use Rattle.xmp_meaning_laws.proofs.Reach as lemmas
use Rattle.xmp_meaning_laws.proofs.laws.points_reach_cells.Goals as goal

pub returns : goal.returns
returns c = lemmas.points_reach
