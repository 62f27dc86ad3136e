use Rattle.xmp_lex.proofs.LineStarts as lemmas
use Rattle.xmp_lex.proofs.laws.fresh_line.Goals as goal

pub returns : goal.returns
returns c = lemmas.fresh_line
