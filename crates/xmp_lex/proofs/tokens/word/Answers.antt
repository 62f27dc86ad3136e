use Rattle.std.proofs.Common.{sym, ◌∙◌}
use Rattle.xmp_lex.proofs.TokenLemmas.{word_found, name_found}
use Rattle.xmp_lex.proofs.tokens.word.Goals as goal

pub returns-in-Some-clause-ok : goal.returns-in-Some-clause-ok
returns-in-Some-clause-ok c = word_found c.args.text.now c.run-n.result c.in-Some.word c.requires c.run-n.ensures (sym c.front-spelled.ensures ∙ c.in-Some.ensures)

pub returns-in_ok-bytes-in-None-clause-ok : goal.returns-in_ok-bytes-in-None-clause-ok
returns-in_ok-bytes-in-None-clause-ok c = name_found c.args.text.now c.run-n.result c.front-spelled.result.now _ c.requires c.run-n.ensures c.front-spelled.ensures c.in-None.ensures c.in_ok-bytes-in-None.ensures
