use Rattle.xmp_rules.proofs.RuleLaws as lemmas
use Rattle.xmp_rules.proofs.laws.arrays_and_their_places.Goals as goal

pub returns : goal.returns
returns c = lemmas.arrays_and_their_places
