use Rattle.std.proofs.Common.{◌≡◌}
use Rattle.xmp_first.specs.FirstMeaning.{total}
use Rattle.xmp_first.specs.FirstTree.{tree_of}
use Rattle.xmp_dist.specs.declared.form.Dist.TheVariants.{Block}
use Rattle.xmp_dist.specs.Table.{chunk_start}
use Rattle.xmp_first.specs.Nodes.{tabulate}
use Rattle.xmp_first.specs.Blocks.{block_of}
use Rattle.xmp_first.proofs.nodes.loops.Given as goal

abbrev pub invariant-loop-node : goal.invariant-loop-node
invariant-loop-node l = record {
  rows : l.blocks ≡ tabulate (block_of l.p.size l.p.nodes (tree_of l.p.value)) l.node;
  sum : l.sum ≡ total (tree_of l.p.value) (chunk_start Block l.p.size l.p.nodes l.node);
}
