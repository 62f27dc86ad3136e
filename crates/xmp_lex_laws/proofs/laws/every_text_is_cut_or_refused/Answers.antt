use Rattle.xmp_lex_laws.proofs.EveryCut as lemmas
use Rattle.xmp_lex_laws.proofs.laws.every_text_is_cut_or_refused.Goals as goal

pub returns : goal.returns
returns c = lemmas.every_text
