use Rattle.xmp_lex.proofs.PlaceLaws as lemmas
use Rattle.xmp_lex.proofs.laws.token_places.Goals as goal

pub returns : goal.returns
returns c = lemmas.token_places
