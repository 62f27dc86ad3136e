use Rattle.xmp_lex.proofs.Heads.{six, no_word_no_form, no_first}
use Rattle.xmp_lex.proofs.hash.hash.Goals as goal

pub returns-in-None-clause-err : goal.returns-in-None-clause-err
returns-in-None-clause-err c = six c.args.text.now c.requires.begins (no_word_no_form c.args.text.now (no_first c.args.text.now (rw c.from.ensures at c.in-None.ensures)))
