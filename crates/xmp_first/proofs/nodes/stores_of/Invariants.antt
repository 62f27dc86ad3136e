use Rattle.std.proofs.Common.{◌≡◌}
use Rattle.xmp_first.specs.FirstTree.{tree_of}
use Rattle.xmp_first.specs.Nodes.{tabulate, store_of}
use Rattle.xmp_first.proofs.nodes.stores_of.Given as goal

abbrev pub invariant-loop-node : goal.invariant-loop-node
invariant-loop-node l = l.stores ≡ tabulate (store_of l.p.size l.p.nodes (tree_of l.p.value)) l.node
