use Rattle.xmp_meaning.proofs.Images as lemmas
use Rattle.xmp_meaning.proofs.laws.phases_of_one_image.Goals as goal

pub returns : goal.returns
returns c = lemmas.one_image
