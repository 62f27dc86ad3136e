use Rattle.std.proofs.Common.{sym, ◌∙◌}
use Rattle.xmp_lex.proofs.Heads.{define_found, no_letter, bracket, reserved}
use Rattle.xmp_lex.proofs.hash.define.Goals as goal

pub returns-then-not-is_letter-clause-err : goal.returns-then-not-is_letter-clause-err
returns-then-not-is_letter-clause-err c = no_letter c.args.text.now c.from-after.result.now c.args.n c.byte_at.result c.requires.head c.from-after.ensures c.byte_at.ensures (sym c.is_letter.ensures ∙ c.if-not-is_letter.true)

pub returns-then-byte_at-eq40-clause-err : goal.returns-then-byte_at-eq40-clause-err
returns-then-byte_at-eq40-clause-err c = bracket c.args.text.now c.from-after.result.now c.args.n c.run-k.result c.byte_at-2.result c.requires.head c.from-after.ensures c.run-k.ensures c.byte_at-2.ensures c.if-byte_at-eq40.true

pub returns-in-Some-clause-err : goal.returns-in-Some-clause-err
returns-in-Some-clause-err c = reserved c.args.text.now c.from-after.result.now c.front-name.result.now c.args.n c.run-k.result _ c.requires.head c.from-after.ensures c.run-k.ensures c.front-name.ensures c.in-Some.ensures

pub returns-in-Ok-clause-ok : goal.returns-in-Ok-clause-ok
returns-in-Ok-clause-ok c = define_found c.args.text.now c.from-after.result.now c.front-name.result.now _ c.args.n c.run-k.result c.byte_at.result c.byte_at-2.result c.requires.head c.requires.within c.from-after.ensures c.byte_at.ensures (sym c.is_letter.ensures ∙ c.if-not-is_letter.false) c.run-k.ensures c.byte_at-2.ensures c.if-byte_at-eq40.false c.front-name.ensures c.in-None.ensures c.in-Ok.ensures
