use Rattle.xmp_lex.proofs.NeverBoth as lemmas
use Rattle.xmp_lex.proofs.laws.never_cut_and_refused.Goals as goal

pub returns : goal.returns
returns c = lemmas.never_both
