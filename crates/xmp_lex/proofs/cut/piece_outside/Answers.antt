use Rattle.std.proofs.Common.{arith}
use Rattle.xmp_lex.specs.Cut.{comment, unclosed_comment}
use Rattle.xmp_lex.proofs.cut.piece_outside.Goals as goal

pub returns-in-Unclosed-clause-err : goal.returns-in-Unclosed-clause-err
returns-in-Unclosed-clause-err c = (unclosed_comment _ c.in-Unclosed.ensures, omega arith)

pub returns-in-Some-clause-ok : goal.returns-in-Some-clause-ok
returns-in-Some-clause-ok c = rw c.gives_nothing.ensures (comment _ _ c.requires.mode c.in-Some.ensures.0, c.in-Some.ensures.1, (let h = c.in-Some.ensures.2 in omega arith), tt)
