use Rattle.xmp_meaning_laws.proofs.Shadows as lemmas
use Rattle.xmp_meaning_laws.proofs.laws.shadows_are_held.Goals as goal

pub returns : goal.returns
returns c = lemmas.shadow_is_held
