use Rattle.std.proofs.Common.{ap, ◌∙◌, ◌++◌, reverse}
use Rattle.indexmap.proofs.MapLemmas.{OnOk-map}
use Rattle.xmp_spots.proofs.BetweenLaws.{absorbed, absorbed_swapped}
use Rattle.xmp_spots.proofs.accesses.Accesses.absorb.Goals as goal

pub returns-then-len-clause-ok : goal.returns-then-len-clause-ok
returns-then-len-clause-ok c =
    OnOk-map c.extend.result _ _ (λ e. absorbed_swapped c.args.self.now c.args.other c.extend.new.self (e ∙ (λ i. c.swap.ensures.x_after i ++ reverse ((c.into_touches.ensures ∙ c.swap.ensures.y_after) i)))) c.extend.ensures.ok

pub returns-clause-ok : goal.returns-clause-ok
returns-clause-ok c =
    OnOk-map c.extend-2.result _ _
    (λ e. absorbed c.args.self.now c.args.other c.extend-2.new.self (e ∙ ap (λ l. c.args.self.now ++ reverse l) c.into_touches-2.ensures))
    c.extend-2.ensures.ok
