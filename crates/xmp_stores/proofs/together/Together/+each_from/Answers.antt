use Rattle.std.proofs.Common.{rules}
use Rattle.std.proofs.lemmas.Result.{IfOk-weaker}
use Rattle.xmp_stores.proofs.Steps.{each_first, behind_first}
use Rattle.xmp_stores.proofs.together.Together.+each_from.Goals as goal

-- src/each.rt:50:5
pub returns-in_ok-push-in-Some-clause-gives : goal.returns-in_ok-push-in-Some-clause-gives
returns-in_ok-push-in-Some-clause-gives g t c = IfOk-weaker c.each_from.result _ _ (λ x same. behind_first _ _ _ (search rules) c.in_ok-given-in-Some.ensures.gives c.in_ok-push-in-Some.ensures same) c.each_from.ensures.gives

-- src/each.rt:50:5
pub returns-in_ok-push-in-Some-clause-leaves : goal.returns-in_ok-push-in-Some-clause-leaves
returns-in_ok-push-in-Some-clause-leaves g t c = IfOk-weaker c.each_from.result _ _ (λ x same. each_first _ _ (search rules) c.in_ok-given-in-Some.ensures.leaves same) c.each_from.ensures.leaves
