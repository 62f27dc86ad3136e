use Rattle.std.proofs.Common.{◌≡◌, take}
use Rattle.xmp_first.specs.Blocks.{summed}
use Rattle.xmp_first.proofs.blocks.second_loop.Given as goal

abbrev pub invariant-loop-value : goal.invariant-loop-value
invariant-loop-value l = l.sum ≡ summed l.start (take l.value-index l.cells)
