use Rattle.std.proofs.Common.{arith}
use Rattle.xmp_lex.proofs.CutLemmas.{one_more}
use Rattle.xmp_lex.proofs.cut.push.Goals as goal

pub returns-then-len-eq-TOKEN_LIMIT-clause-err : goal.returns-then-len-eq-TOKEN_LIMIT-clause-err
returns-then-len-eq-TOKEN_LIMIT-clause-err c = rw c.refused.ensures (one_more c.args.tokens.now.items _ (omega arith))
