use Rattle.xmp_lex.proofs.MacroLaws as lemmas
use Rattle.xmp_lex.proofs.laws.never_expanded_and_refused.Goals as goal

pub returns : goal.returns
returns c = lemmas.never_both
