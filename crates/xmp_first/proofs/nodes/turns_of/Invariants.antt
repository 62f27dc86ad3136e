use Rattle.std.proofs.Common.{◌≡◌}
use Rattle.xmp_first.specs.Nodes.{tabulate, turns_of}
use Rattle.xmp_first.proofs.nodes.turns_of.Given as goal

abbrev pub invariant-loop-node : goal.invariant-loop-node
invariant-loop-node l = l.turns.items ≡ tabulate (turns_of l.p.size l.p.nodes) l.node
