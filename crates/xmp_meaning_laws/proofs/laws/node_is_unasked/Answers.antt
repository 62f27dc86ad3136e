use Rattle.xmp_meaning_laws.proofs.Unasked as lemmas
use Rattle.xmp_meaning_laws.proofs.laws.node_is_unasked.Goals as goal

pub returns : goal.returns
returns c start p node other input n s = lemmas.node_unasked _ p node other input n s
