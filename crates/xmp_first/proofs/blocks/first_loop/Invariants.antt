use Rattle.std.proofs.Common.{◌≡◌, ◌-◌}
use Rattle.xmp_first.specs.FirstTree.{tree_of}
use Rattle.xmp_first.specs.Blocks.{cells_from}
use Rattle.xmp_first.proofs.blocks.first_loop.Given as goal

abbrev pub invariant-loop-cell : goal.invariant-loop-cell
invariant-loop-cell l = l.cells ≡ cells_from (tree_of l.p.value) l.start (l.cell - l.start)
