use Rattle.xmp_lex.proofs.ExpandLemmas as lemmas
use Rattle.xmp_lex.proofs.laws.some_expansion.Goals as goal

pub returns : goal.returns
returns c = λ tokens closed. lemmas.some_text tokens closed
