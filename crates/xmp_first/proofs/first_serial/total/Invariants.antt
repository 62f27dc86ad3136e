use Rattle.std.proofs.Common.{◌≡◌}
use Rattle.xmp_first.specs.FirstMeaning.{total}
use Rattle.xmp_first.specs.FirstTree.{tree_of}
use Rattle.xmp_first.proofs.first_serial.total.Given as goal

abbrev pub invariant-loop-index : goal.invariant-loop-index
invariant-loop-index l = l.sum ≡ total (tree_of l.p.value) l.index
