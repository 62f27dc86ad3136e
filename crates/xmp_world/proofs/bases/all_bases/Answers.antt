use Rattle.std.proofs.Common.{◌≡◌, ◌+◌, ◌++◌, ◌∷◌, [], sym, ◌∙◌, arith}
use Rattle.std.proofs.lemmas.List.FromFn.{map-range_with_len_more}
use Rattle.xmp_world.specs.Gathering.{node_bases}
use Rattle.xmp_world.proofs.bases.all_bases.Goals as goal

pub loop-node-preserved : goal.loop-node-preserved
loop-node-preserved c =
    let k = c.loop-node.node in
    let z : 0 + k ≡ k = omega arith in
    c.in_ok-push.ensures.items
    ∙ ((λ i. c.loop-node.invariant i ++ c.in_ok-bases.ensures i ∷ []) ∙ sym (map-range_with_len_more (node_bases c.args.p.now) 0 k k z))
