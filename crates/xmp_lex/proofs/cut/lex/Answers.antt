use Rattle.std.proofs.lemmas.Result.{IfOk-weaker, IfErr-weaker}
use Rattle.xmp_lex.proofs.LineLemmas.{cut_finished, cut_closed}
use Rattle.xmp_lex.proofs.NeverBoth.{only_memory}
use Rattle.xmp_lex.proofs.cut.lex.Goals as goal

pub returns-clause-no_other : goal.returns-clause-no_other
returns-clause-no_other c = λ tokens cut. IfErr-weaker c.cut_all.result _ _ (λ e b. only_memory c.args.text.now tokens e cut b) c.cut_all.ensures.err

pub returns-clause-finished : goal.returns-clause-finished
returns-clause-finished c = IfOk-weaker c.cut_all.result _ _ (λ v k. cut_finished c.args.text.now v.items k) c.cut_all.ensures.ok

pub returns-clause-closed : goal.returns-clause-closed
returns-clause-closed c = IfOk-weaker c.cut_all.result _ _ (λ v k. cut_closed c.args.text.now v.items k) c.cut_all.ensures.ok
