use Rattle.std.proofs.Common.{◌∙◌, sym}
use Rattle.xmp_lex.proofs.Heads.{six, open_form, open_pragma}
use Rattle.xmp_lex.proofs.hash.unclosed.Goals as goal

pub returns-then-is-clause-ok : goal.returns-then-is-clause-ok
returns-then-is-clause-ok c = rw c.gives_nothing.ensures (open_pragma c.args.text.now c.args.word.now c.args.n c.requires.line_word c.requires.within c.requires.open (c.is.ensures.yes c.if-is.true ∙ c.as_slice.ensures))

pub returns-else-is-clause-err : goal.returns-else-is-clause-err
returns-else-is-clause-err c = six c.args.text.now c.requires.line_word.begins (open_form c.args.text.now c.args.n c.args.word.now c.requires.line_word c.requires.open (λ z. c.is.ensures.no c.if-is.false (z ∙ sym c.as_slice.ensures)))
