use Rattle.xmp_meaning_laws.proofs.Unseen as lemmas
use Rattle.xmp_meaning_laws.proofs.laws.output_is_unseen.Goals as goal

pub returns : goal.returns
returns c start cx s = lemmas.output_unseen _ cx s
