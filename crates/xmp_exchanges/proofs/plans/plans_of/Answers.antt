use Rattle.std.proofs.Common.{◌∙◌, ◌++◌, ◌∷◌, [], sym, arith}
use Rattle.std.proofs.lemmas.List.FromFn.{map-range_with_len_more}
use Rattle.xmp_exchanges.specs.Plans.{lists_of}
use Rattle.xmp_exchanges.proofs.plans.plans_of.Goals as goal

pub nodes-preserved : goal.nodes-preserved
nodes-preserved c =
    c.in_ok-push.ensures
    ∙ (λ i. c.nodes.invariant i ++ c.in_ok-plan.ensures i ∷ [])
    ∙ sym (map-range_with_len_more (lists_of c.args.kind.now c.args.args.now) 0 c.nodes.node c.nodes.node (omega arith))
