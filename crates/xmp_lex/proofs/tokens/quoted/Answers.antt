use Rattle.xmp_lex.proofs.TokenLemmas.{unclosed_found, unknown_found, text_found}
use Rattle.xmp_lex.proofs.tokens.quoted.Goals as goal

pub returns-then-byte_at-ne34-clause-err : goal.returns-then-byte_at-ne34-clause-err
returns-then-byte_at-ne34-clause-err c = unclosed_found c.args.text.now c.from-after.result.now c.text_end-k.result c.byte_at.result c.requires c.from-after.ensures c.text_end-k.ensures c.byte_at.ensures c.if-byte_at-ne34.true

pub returns-in-Unknown-clause-err : goal.returns-in-Unknown-clause-err
returns-in-Unknown-clause-err c = unknown_found c.args.text.now c.from-after.result.now c.text_end-k.result c.byte_at.result c.in-Unknown.j c.requires c.from-after.ensures c.text_end-k.ensures c.byte_at.ensures c.if-byte_at-ne34.false (rw c.in-Unknown.is at c.in_ok-j.ensures)

pub returns-in-Text-clause-ok : goal.returns-in-Text-clause-ok
returns-in-Text-clause-ok c = text_found c.args.text.now c.from-after.result.now c.text_end-k.result c.byte_at.result c.in-Text.bytes c.requires c.from-after.ensures c.text_end-k.ensures c.byte_at.ensures c.if-byte_at-ne34.false (rw c.in-Text.is at c.in_ok-j.ensures)
