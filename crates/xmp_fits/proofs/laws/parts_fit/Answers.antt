use Rattle.xmp_fits.proofs.PartsRight as lemmas
use Rattle.xmp_fits.proofs.laws.parts_fit.Goals as goal

pub returns : goal.returns
returns c = lemmas.parts_fit
