use Rattle.std.proofs.Common.{rules}
use Rattle.std.proofs.lemmas.Result.{IfOk-weaker}
use Rattle.xmp_stores.proofs.Beginnings.{states_first}
use Rattle.xmp_stores.proofs.beginning.+push_states.Goals as goal

pub returns-in_ok-push-in-Some : goal.returns-in_ok-push-in-Some
returns-in_ok-push-in-Some t c =
    IfOk-weaker c.push_states.result _ _ (λ u others p node are. states_first p c.args.steps node {l = c.in-Some.layout.now} c.args.stores.now.items (search rules) c.in_ok-state-in-Some.ensures c.in_ok-push-in-Some.ensures others are) c.push_states.ensures
