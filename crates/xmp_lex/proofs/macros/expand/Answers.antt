use Rattle.std.proofs.lemmas.Result.{IfErr-weaker}
use Rattle.xmp_lex.proofs.MacroLaws.{only_memory}
use Rattle.xmp_lex.proofs.macros.expand.Goals as goal

pub returns-clause-no_other : goal.returns-clause-no_other
returns-clause-no_other c = λ expanded x. IfErr-weaker c.expand_all.result _ _ (λ e b. only_memory c.args.tokens.items expanded e x b) c.expand_all.ensures.err
