use Rattle.std.proofs.Common.{◌∙◌, sym, ap, ℕ, ◌*◌, List, [], ◌∷◌, ◌++◌}
use Rattle.xmp_first.specs.Nodes.{tabulate, turns_of}
use Rattle.xmp_first.proofs.Tables.{tabulate-more}
use Rattle.xmp_first.proofs.BlockLaws.{turns_are}
use Rattle.xmp_first.proofs.nodes.turns_of.Goals as goal

pub loop-node-preserved : goal.loop-node-preserved
loop-node-preserved c =
    let node = c.loop-node.node in
    let pushed = rw c.in-Ok.is at c.push.ensures.items in
    let turns = ap (λ (k : ℕ). 2 * k) (c.from-count.ensures ∙ c.count.ensures) ∙ turns_are c.args.dim.now c.args.p.now.size c.args.p.now.nodes node c.requires in
    pushed
    ∙ ap (λ (xs : List ℕ). xs ++ 2 * c.from-count.result ∷ []) c.loop-node.invariant
    ∙ ap (λ (k : ℕ). tabulate (turns_of c.args.p.now.size c.args.p.now.nodes) node ++ k ∷ []) turns
    ∙ sym (tabulate-more (turns_of c.args.p.now.size c.args.p.now.nodes) node)
