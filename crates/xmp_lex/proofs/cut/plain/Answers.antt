use Rattle.std.proofs.Common.{arith}
use Rattle.xmp_lex.specs.Cut.{token}
use Rattle.xmp_lex.specs.Found.{state_of}
use Rattle.xmp_lex.proofs.CutLemmas.{malformed_broken}
use Rattle.xmp_lex.proofs.cut.plain.Goals as goal

pub returns-in-Err-clause-err : goal.returns-in-Err-clause-err
returns-in-Err-clause-err c = malformed_broken c.args.text.now (state_of c.args.mode) _ c.requires.mode c.requires.hash c.requires.splice c.in-Err.ensures.err

pub returns-in-Ok-clause-ok : goal.returns-in-Ok-clause-ok
returns-in-Ok-clause-ok c = rw c.behind_token.ensures (token (state_of c.args.mode) _ _ c.requires.mode c.in-Ok.ensures.ok.0, c.in-Ok.ensures.ok.1, c.in-Ok.ensures.ok.2, omega arith)
