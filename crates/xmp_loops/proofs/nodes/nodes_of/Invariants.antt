use Rattle.std.proofs.Common.{◌≡◌, ◌<◌, ◌≤◌, ◌^◌}
use Rattle.xmp_loops.specs.Objects.{bits_where, is_in_grid}
use Rattle.xmp_loops.proofs.nodes.nodes_of.Given as goal

abbrev pub invariant-nodes : goal.invariant-nodes
invariant-nodes l = record {
  same : l.nodes ≡ bits_where (is_in_grid l.grid) l.node;
  bit : l.bit ≡ 2 ^ l.node;
  small : l.nodes < l.bit;
  within : l.node ≤ 16;
}
