use Rattle.xmp_meaning.proofs.CornersReport as lemmas
use Rattle.xmp_meaning.proofs.rows.corners_are_summed.Goals as goal

pub returns : goal.returns
returns c = lemmas.corners_reported
