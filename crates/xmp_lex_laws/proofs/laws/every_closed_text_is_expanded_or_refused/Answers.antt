use Rattle.xmp_lex_laws.proofs.EveryExpansion as lemmas
use Rattle.xmp_lex_laws.proofs.laws.every_closed_text_is_expanded_or_refused.Goals as goal

pub returns : goal.returns
returns c = lemmas.every_closed_text
