use Rattle.std.proofs.Common.{subst, sym, refl}
use Rattle.std.proofs.lemmas.Bool.{false≢true}
use Rattle.xmp_instr.proofs.Lists.{all_from, all_go_on, all_done}
use Rattle.xmp_instr.proofs.test.all.Goals as goal

pub items-preserved : goal.items-preserved
items-preserved g c =
    all_go_on (g.T.Test.holds c.args.parts.now) c.args.items.now c.items.item-index c.item-item.result c.items-test.true c.items.invariant
    (subst (g.T.Test.holds c.args.parts.now) c.item-item.is ((c.if-not-passes.ensures {u = tt}).0 refl))

pub returns : goal.returns
returns g c = (λ h. all_done (g.T.Test.holds c.args.parts.now) c.args.items.now c.items.item-index c.items-test.false c.items.invariant, λ a. refl)

pub returns-then-not-passes : goal.returns-then-not-passes
returns-then-not-passes g c = (
  λ h. absurd (false≢true h),
  λ a. (c.if-not-passes.ensures {u = tt}).1 (subst (g.T.Test.holds c.args.parts.now) (sym c.item-item.is)
      (all_from (g.T.Test.holds c.args.parts.now) c.args.items.now c.items.item-index c.item-item.result c.items-test.true (c.items.invariant.0 a)).0),
)
