use Rattle.xmp_meaning_laws.proofs.Owners as lemmas
use Rattle.xmp_meaning_laws.proofs.laws.points_have_owners.Goals as goal

pub returns : goal.returns
returns c = lemmas.points_have_owners
