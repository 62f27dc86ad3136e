use Rattle.xmp_lex.proofs.Heads.{make_head}
use Rattle.xmp_lex.proofs.hash.behind_word.Goals as goal

pub form-requires-clause-head : goal.form-requires-clause-head
form-requires-clause-head c = make_head c.args.text.now c.args.word.now c.args.n c.in-Some.second c.requires.line_word (rw c.from.ensures at c.in-Some.ensures.0)

pub unclosed-requires-clause-open : goal.unclosed-requires-clause-open
unclosed-requires-clause-open c = rw c.from.ensures at c.in-None.ensures
