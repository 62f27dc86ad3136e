use Rattle.std.proofs.Common.{◌≡◌}
use Rattle.std.specs.List.{flat_map, range_with_len}
use Rattle.xmp_world.specs.Reports.{counts_in, report_line}
use Rattle.xmp_world.proofs.report.report_of.Given as goal

abbrev pub invariant-loop-node : goal.invariant-loop-node
invariant-loop-node l = l.out ≡ flat_map (λ node. report_line node (counts_in l.world node)) (range_with_len 0 l.node)
