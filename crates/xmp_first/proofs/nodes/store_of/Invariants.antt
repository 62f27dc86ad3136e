use Rattle.std.proofs.Common.{◌≡◌, pos, ◌∷◌}
use Rattle.xmp_first.specs.FirstTree.{tree_of}
use Rattle.xmp_first.specs.FirstMeaning.{total}
use Rattle.xmp_first.specs.Nodes.{tabulate, word_of}
use Rattle.xmp_first.proofs.nodes.store_of.Given as goal

abbrev pub invariant-loop-cell : goal.invariant-loop-cell
invariant-loop-cell l = l.store ≡ pos l.p.size ∷ total (tree_of l.p.value) l.p.size ∷ tabulate (word_of l.p.size l.p.nodes (tree_of l.p.value) l.node) l.cell
