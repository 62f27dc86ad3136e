use Rattle.std.proofs.Common.{◌≡◌, ◌<◌, ◌≤◌, ◌^◌}
use Rattle.xmp_loops.specs.Objects.{bits_where, is_in_set}
use Rattle.xmp_loops.proofs.nodes.nodes_in.Given as goal

abbrev pub invariant-nodes : goal.invariant-nodes
invariant-nodes l = record {
  same : l.nodes ≡ bits_where (is_in_set l.grid l.set) l.node;
  bit : l.bit ≡ 2 ^ l.node;
  small : l.nodes < l.bit;
  within : l.node ≤ 16;
}
