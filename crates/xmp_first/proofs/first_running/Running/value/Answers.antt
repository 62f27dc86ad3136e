use Rattle.std.proofs.Common.{rules, ◌∙◌, sym}
use Rattle.xmp_first.proofs.FirstSteps.{joined_value}
use Rattle.xmp_first.proofs.first_running.Running.value.Goals as goal

pub returns-in-Joined : goal.returns-in-Joined
returns-in-Joined c = λ t i e.
    joined_value t i c.in-Joined.sum c.in-Joined.product c.applied.result c.in-Joined.op (search rules) (search rules) (record { sfits = c.applied.type_inv }) (sym c.in-Joined.is ∙ e) c.applied.ensures
