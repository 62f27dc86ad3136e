use Rattle.xmp_meaning_laws.proofs.Shapes as lemmas
use Rattle.xmp_meaning_laws.proofs.laws.shape_stays.Goals as goal

pub returns : goal.returns
returns c start cx s = lemmas.shape_stays cx s
