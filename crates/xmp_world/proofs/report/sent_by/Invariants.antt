use Rattle.std.proofs.Common.{◌≡◌}
use Rattle.std.specs.Prelude.{unwrap_or}
use Rattle.std.specs.List.{range_with_len, sum_by}
use Rattle.xmp_nodes.specs.Nodes.{bounded}
use Rattle.xmp_world.specs.Counts.{sent_to}
use Rattle.xmp_world.proofs.report.sent_by.Given as goal

abbrev pub invariant-loop-to : goal.invariant-loop-to
invariant-loop-to l = l.all ≡ bounded (sum_by (λ to. unwrap_or (sent_to l.world l.node to) 0) (range_with_len 0 l.to))
