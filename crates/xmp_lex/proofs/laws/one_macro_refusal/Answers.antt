use Rattle.xmp_lex.proofs.MacroLaws as lemmas
use Rattle.xmp_lex.proofs.laws.one_macro_refusal.Goals as goal

pub returns : goal.returns
returns c = lemmas.one_refusal
