use Rattle.std.proofs.Common.{◌≡◌, ◌+◌, drop}
use Rattle.xmp_dist.specs.Table.{chunk_of}
use Rattle.xmp_dist.proofs.chunks.chunk_of.Given as goal

abbrev pub invariant-loop-i : goal.invariant-loop-i
invariant-loop-i l = chunk_of l.lengths l.g ≡ l.i + chunk_of (drop l.i l.lengths) l.rest
