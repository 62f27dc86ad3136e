use Rattle.std.proofs.Common.{◌≡◌, map}
use Rattle.std.specs.List.{range_with_len}
use Rattle.xmp_prog.specs.NodeSets.{has_node}
use Rattle.xmp_exchanges.proofs.leader.members.Given as goal

abbrev pub invariant-nodes : goal.invariant-nodes
invariant-nodes l = l.all ≡ map (has_node l.grid l.set) (range_with_len 0 l.node)
