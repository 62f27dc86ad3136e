use Rattle.std.proofs.Common.{◌∙◌, ◌++◌, ◌∷◌, [], sym, arith}
use Rattle.std.proofs.lemmas.List.FromFn.{map-range_with_len_more}
use Rattle.xmp_move.specs.Stores.{packed}
use Rattle.xmp_exchanges.specs.Plans.{list_at}
use Rattle.xmp_exchanges.proofs.packing.packed_for.Goals as goal

pub nodes-preserved : goal.nodes-preserved
nodes-preserved c =
    c.in_ok-push.ensures
    ∙ (λ i. c.nodes.invariant i ++ c.in_ok-words.ensures i ∷ [])
    ∙ sym (map-range_with_len_more (λ to. packed c.args.store.now (list_at c.args.plan.now.sends to)) 0 c.nodes.to c.nodes.to (omega arith))
