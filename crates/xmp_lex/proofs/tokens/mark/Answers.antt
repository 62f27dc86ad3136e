use Rattle.std.proofs.Common.{length, ap, arith}
use Rattle.xmp_lex.specs.Pieces.{stray}
use Rattle.xmp_lex.proofs.TokenLemmas.{mark_found}
use Rattle.xmp_lex.proofs.tokens.mark.Goals as goal

pub returns-in-None-clause-err : goal.returns-in-None-clause-err
returns-in-None-clause-err c = (stray c.requires.some c.requires.white c.requires.word c.requires.quote c.in-None.ensures, omega arith)

pub returns-in-Some-clause-ok : goal.returns-in-Some-clause-ok
returns-in-Some-clause-ok c = mark_found c.args.text.now c.in-Some.mark _ c.requires.block c.requires.line c.in-Some.ensures (ap length c.mark_text.ensures)
