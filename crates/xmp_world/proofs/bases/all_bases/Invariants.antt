use Rattle.std.proofs.Common.{◌≡◌, map}
use Rattle.std.specs.List.{range_with_len}
use Rattle.xmp_world.specs.Gathering.{node_bases}
use Rattle.xmp_world.proofs.bases.all_bases.Given as goal

abbrev pub invariant-loop-node : goal.invariant-loop-node
invariant-loop-node l = l.all.items ≡ map (node_bases l.p) (range_with_len 0 l.node)
