use Rattle.std.proofs.Common.{◌∙◌, sym, ap, ℤ, pos, ◌+ℤ◌, List, [], ◌∷◌, ◌++◌, w64, to_z, of_z}
use Rattle.std.proofs.lemmas.Int.{to_z-of_z}
use Rattle.xmp_num.specs.declared.types.Ty.TheVariants.{Int}
use Rattle.xmp_num.specs.Arithmetic.{wrap}
use Rattle.xmp_dist.specs.declared.form.Dist.TheVariants.{Block}
use Rattle.xmp_dist.specs.Table.{chunk_start}
use Rattle.xmp_first.specs.FirstMeaning.{total}
use Rattle.xmp_first.specs.FirstTree.{tree_of}
use Rattle.xmp_first.specs.Nodes.{tabulate}
use Rattle.xmp_first.specs.Blocks.{block_of, summed}
use Rattle.xmp_first.proofs.Tables.{tabulate-more}
use Rattle.xmp_first.proofs.BlockLaws.{block_is, part_added}
use Rattle.xmp_first.proofs.nodes.loops.Goals as goal

pub loop-node-preserved : goal.loop-node-preserved
loop-node-preserved c =
    let node = c.loop-node.node in
    let e = tree_of c.args.p.now.value in
    let block = c.in_ok-cells.ensures
    ∙ block_is c.args.dim.now c.args.p.now.size c.args.p.now.nodes e node c.interval-start.result.0 c.interval-start.result.1 c.requires c.interval-start.ensures.start c.interval-start.ensures.finish in
    let part = to_z-of_z w64 c.second_loop.result (record { sfits = c.second_loop.type_inv })
    ∙ c.second_loop.ensures ∙ ap (λ (xs : List ℤ). summed (pos 0) xs) (c.as_slice.ensures ∙ block) in
    record {
      rows = c.in-Ok.ensures.ok
          ∙ ap (λ (xs : List (List ℤ)). xs ++ c.in_ok-cells.cells ∷ []) c.loop-node.invariant.rows
          ∙ ap (λ (x : List ℤ). tabulate (block_of c.args.p.now.size c.args.p.now.nodes e) node ++ x ∷ []) block
          ∙ sym (tabulate-more (block_of c.args.p.now.size c.args.p.now.nodes e) node);
      sum = to_z-of_z w64 c.added-sum.result (record { sfits = c.added-sum.type_inv })
          ∙ c.added-sum.ensures
          ∙ ap (λ (z : ℤ). wrap Int (z +ℤ to_z w64 (of_z w64 c.second_loop.result))) c.loop-node.invariant.sum
          ∙ ap (λ (z : ℤ). wrap Int (total e (chunk_start Block c.args.p.now.size c.args.p.now.nodes node) +ℤ z)) part
          ∙ part_added c.args.p.now.size c.args.p.now.nodes e node;
    }
