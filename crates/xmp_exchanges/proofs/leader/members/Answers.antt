use Rattle.std.proofs.Common.{◌∙◌, ◌++◌, ◌∷◌, [], sym, arith}
use Rattle.std.proofs.lemmas.List.FromFn.{map-range_with_len_more}
use Rattle.xmp_prog.specs.NodeSets.{has_node}
use Rattle.xmp_exchanges.proofs.leader.members.Goals as goal

pub nodes-preserved : goal.nodes-preserved
nodes-preserved c =
    c.in_ok-push.ensures
    ∙ (λ i. c.nodes.invariant i ++ c.has_node.ensures i ∷ [])
    ∙ sym (map-range_with_len_more (has_node c.args.grid.now c.args.set.now) 0 c.nodes.node c.nodes.node (omega arith))
