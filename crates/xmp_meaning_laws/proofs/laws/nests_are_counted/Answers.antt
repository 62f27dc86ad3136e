use Rattle.xmp_meaning_laws.proofs.Nests as lemmas
use Rattle.xmp_meaning_laws.proofs.laws.nests_are_counted.Goals as goal

pub returns : goal.returns
returns c start cx heads body = lemmas.nests_are_counted _ cx heads body
