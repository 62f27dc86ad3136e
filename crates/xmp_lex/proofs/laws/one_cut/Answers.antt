use Rattle.xmp_lex.proofs.NeverBoth as lemmas
use Rattle.xmp_lex.proofs.laws.one_cut.Goals as goal

pub returns : goal.returns
returns c = lemmas.one_cut
