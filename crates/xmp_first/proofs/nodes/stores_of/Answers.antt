use Rattle.std.proofs.Common.{◌∙◌, ap, List, ℤ}
use Rattle.std.specs.Prelude.{slice_get}
use Rattle.xmp_first.specs.FirstTree.{tree_of}
use Rattle.xmp_first.specs.Blocks.{block_of}
use Rattle.xmp_first.proofs.Tables.{slice_get-tabulate}
use Rattle.xmp_first.proofs.nodes.stores_of.Goals as goal

pub unreachable-requires : goal.unreachable-requires
unreachable-requires c =
    let here = slice_get-tabulate (block_of c.args.p.now.size c.args.p.now.nodes (tree_of c.args.p.now.value)) c.args.p.now.nodes c.loop-node.node c.loop-node-test.true in
    let found = c.in_default.ensures.row ∙ ap (λ (rows : List (List ℤ)). slice_get rows c.loop-node.node) c.requires.rows ∙ here in
    absurd (cc)

pub store_of-requires-clause-block : goal.store_of-requires-clause-block
store_of-requires-clause-block c =
    let here = slice_get-tabulate (block_of c.args.p.now.size c.args.p.now.nodes (tree_of c.args.p.now.value)) c.args.p.now.nodes c.loop-node.node c.loop-node-test.true in
    let found = c.in-Some.ensures.row ∙ ap (λ (rows : List (List ℤ)). slice_get rows c.loop-node.node) c.requires.rows ∙ here in
    cc
