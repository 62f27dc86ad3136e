use Rattle.std.proofs.Common.{rules}
use Rattle.std.proofs.lemmas.Result.{IfOk-weaker}
use Rattle.xmp_stores.proofs.Steps.{each_first}
use Rattle.xmp_stores.proofs.together.Together.+others.Goals as goal

-- src/doing.rt:57:5
pub returns-in_ok-leaves-in-Some : goal.returns-in_ok-leaves-in-Some
returns-in_ok-leaves-in-Some g t c = IfOk-weaker c.others.result _ _ (λ x same. each_first _ _ (search rules) c.in_ok-leaves-in-Some.ensures.state same) c.others.ensures
