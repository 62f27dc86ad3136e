use Rattle.xmp_lex.proofs.Heads.{make_word}
use Rattle.xmp_lex.proofs.hash.behind_hash.Goals as goal

pub behind_word-requires-clause-line_word : goal.behind_word-requires-clause-line_word
behind_word-requires-clause-line_word c =
    make_word c.args.text.now c.from-on.result.now c.front.result.now c.args.first c.run-n.result c.requires.begins c.requires.line_spaces c.from-on.ensures c.run-n.ensures c.front.ensures
