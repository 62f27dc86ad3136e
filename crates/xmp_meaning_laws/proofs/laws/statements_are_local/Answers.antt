use Rattle.xmp_meaning_laws.proofs.Local as lemmas
use Rattle.xmp_meaning_laws.proofs.laws.statements_are_local.Goals as goal

pub returns : goal.returns
returns c start cx s = lemmas.is_local _ cx s
