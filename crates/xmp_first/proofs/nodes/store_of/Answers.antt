use Rattle.std.proofs.Common.{◌∙◌, ap, ℤ, pos, List, w64}
use Rattle.std.specs.Prelude.{nat_le, slice_get, unwrap_or, if◌then◌else◌, ◌-◌}
use Rattle.std.proofs.lemmas.Int.{to_z-of_z}
use Rattle.xmp_first.specs.FirstTree.{tree_of}
use Rattle.xmp_first.proofs.BlockLaws.{start_is, word_in_block, word_added}
use Rattle.xmp_first.proofs.nodes.store_of.Goals as goal

pub loop-cell-preserved : goal.loop-cell-preserved
loop-cell-preserved c =
    let cell = c.loop-cell.cell in
    let start = c.interval-start.result.0 in
    let begin = c.interval-start.ensures.start ∙ start_is c.args.dim.now c.args.p.now.size c.args.p.now.nodes c.args.node c.requires.dim in
    let word = to_z-of_z w64 c.word_at.result (record { sfits = c.word_at.type_inv })
    ∙ c.word_at.ensures
    ∙ ap (λ (xs : List ℤ). if nat_le start cell then unwrap_or (slice_get xs (cell - start)) (pos 0) else pos 0) c.requires.block
    ∙ word_in_block c.args.p.now.size c.args.p.now.nodes (tree_of c.args.p.now.value) c.args.node cell start begin c.args.p.now.some_cells c.args.p.now.some_nodes c.loop-cell-test.true in
    c.in_ok-push-3.ensures.ok ∙ word_added c.args.p.now.size c.args.p.now.nodes (tree_of c.args.p.now.value) c.args.node cell c.loop-cell.store _ c.loop-cell.invariant word
