use Rattle.xmp_lex.proofs.TokenLemmas.{no_number_found, number_found}
use Rattle.xmp_lex.proofs.tokens.number.Goals as goal

pub returns-in-None-clause-err : goal.returns-in-None-clause-err
returns-in-None-clause-err c = no_number_found c.args.text.now c.run-n.result c.front-spelled.result.now c.requires c.run-n.ensures c.front-spelled.ensures c.in-None.ensures

pub returns-in-Some-clause-ok : goal.returns-in-Some-clause-ok
returns-in-Some-clause-ok c = number_found c.args.text.now c.run-n.result c.front-spelled.result.now c.in-Some.value _ _ c.requires c.run-n.ensures c.front-spelled.ensures c.in-Some.ensures c.has_suffix.ensures c.type_of.ensures
