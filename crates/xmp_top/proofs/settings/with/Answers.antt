use Rattle.xmp_top.proofs.settings.with.Goals as goal

pub returns-in-Nodes-clause-none : goal.returns-in-Nodes-clause-none
returns-in-Nodes-clause-none c = rw c.in-Nodes.is c.with_nodes.ensures.none

pub returns-in-Steps-clause-none : goal.returns-in-Steps-clause-none
returns-in-Steps-clause-none c = rw c.in-Steps.is c.with_steps.ensures.none

pub returns-in-Order-clause-none : goal.returns-in-Order-clause-none
returns-in-Order-clause-none c = rw c.in-Order.is c.with_order.ensures.none

pub returns-in-Node-clause-none : goal.returns-in-Node-clause-none
returns-in-Node-clause-none c = rw c.in-Node.is c.with_node.ensures.none
