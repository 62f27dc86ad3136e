use Rattle.std.proofs.Common.{◌≡◌}
use Rattle.xmp_exchanges.specs.Plans.{plans_of}
use Rattle.xmp_exchanges.proofs.plans.plans_of.Given as goal

abbrev pub invariant-nodes : goal.invariant-nodes
invariant-nodes l = l.plans.items ≡ plans_of l.kind l.args l.node
