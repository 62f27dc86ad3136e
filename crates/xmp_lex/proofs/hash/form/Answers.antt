use Rattle.std.proofs.Common.{sym, ◌∙◌}
use Rattle.xmp_lex.proofs.Heads.{six, other_word}
use Rattle.xmp_lex.proofs.hash.form.Goals as goal

pub returns-clause-err : goal.returns-clause-err
returns-clause-err c = six c.args.text.now c.requires.line_word.begins (other_word c.args.text.now c.args.m c.args.word.now c.requires.head
    (λ z. c.is.ensures.no c.if-is.false (z ∙ sym c.as_slice.ensures)) (λ z. c.is-2.ensures.no c.if-is-2.false (z ∙ sym c.as_slice-2.ensures)) (λ z. c.is-3.ensures.no c.if-is-3.false (z ∙ sym c.as_slice-3.ensures)))
