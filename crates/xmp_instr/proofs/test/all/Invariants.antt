use Rattle.std.proofs.Common.{◌↔◌, drop}
use Rattle.std.specs.List.{AllByRecursion}
use Rattle.xmp_instr.proofs.test.all.Given as goal

-- all hold exactly where those that are left do
abbrev pub invariant-items : goal.invariant-items
invariant-items g l = AllByRecursion (g.T.Test.holds l.parts) l.fn.items ↔ AllByRecursion (g.T.Test.holds l.parts) (drop l.item-index l.items)
