use Rattle.std.proofs.Common.{◌≡◌}
use Rattle.xmp_exchanges.specs.Plans.{packed_for}
use Rattle.xmp_exchanges.proofs.packing.packed_for.Given as goal

abbrev pub invariant-nodes : goal.invariant-nodes
invariant-nodes l = l.table ≡ packed_for l.plan.sends l.store l.to
