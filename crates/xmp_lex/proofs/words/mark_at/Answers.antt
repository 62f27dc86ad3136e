use Rattle.xmp_lex.proofs.MarkTable.{marked}
use Rattle.xmp_lex.proofs.words.mark_at.Goals as goal

pub returns : goal.returns
returns c = marked c.args.text.now c.first_of.result c.first_of.ensures
