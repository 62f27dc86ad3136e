use Rattle.std.proofs.Common.{◌≡◌, ◌≤◌, length}
use Rattle.xmp_stores.specs.Layouts.{AreLayouts}
use Rattle.xmp_stores.proofs.layouts.layouts_of.Given as goal

abbrev pub invariant-nodes : goal.invariant-nodes
invariant-nodes l = (length l.all.items ≡ l.node) × (l.node ≤ l.node-end) × AreLayouts l.program 0 l.all.items
