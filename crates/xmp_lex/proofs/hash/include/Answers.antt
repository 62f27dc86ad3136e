use Rattle.xmp_lex.proofs.Heads.{include_found, no_include_found}
use Rattle.xmp_lex.proofs.hash.include.Goals as goal

pub returns-then-byte_at-eq60-clause-ok : goal.returns-then-byte_at-eq60-clause-ok
returns-then-byte_at-eq60-clause-ok c = rw c.gives_nothing.ensures (include_found c.args.text.now c.from.result.now c.args.n c.byte_at.result c.requires.head c.requires.within c.from.ensures c.byte_at.ensures c.if-byte_at-eq60.true)

pub returns-else-byte_at-eq60-clause-err : goal.returns-else-byte_at-eq60-clause-err
returns-else-byte_at-eq60-clause-err c = no_include_found c.args.text.now c.from.result.now c.args.n c.byte_at.result c.requires.head c.from.ensures c.byte_at.ensures c.if-byte_at-eq60.false
