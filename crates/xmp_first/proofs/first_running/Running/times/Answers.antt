use Rattle.std.proofs.Common.{rules, ◌∙◌, sym}
use Rattle.xmp_first.proofs.FirstSteps.{product_times, joined_times}
use Rattle.xmp_first.proofs.first_running.Running.times.Goals as goal

pub returns-in-Product : goal.returns-in-Product
returns-in-Product c = λ t x i e f.
    product_times t x i c.in-Product.product c.args.operand c.applied.result (search rules) c.ranges.operand (record { sfits = c.applied.type_inv }) (sym c.in-Product.is ∙ e) f c.applied.ensures

pub returns-in-Joined : goal.returns-in-Joined
returns-in-Joined c = λ t x i e f.
    joined_times t x i c.in-Joined.sum c.in-Joined.product c.args.operand c.applied-in-Joined.result c.in-Joined.op (search rules) (search rules) c.ranges.operand (record { sfits = c.applied-in-Joined.type_inv }) (sym c.in-Joined.is ∙ e) f c.applied-in-Joined.ensures
