use Rattle.std.proofs.Common.{drop}
use Rattle.std.specs.List.{AllByRecursion}
use Rattle.xmp_move.specs.Kept.{IsOfCode}
use Rattle.xmp_nodes.proofs.axes.has_axes.Given as goal

-- all have them where those that are left do
abbrev pub invariant-arrays : goal.invariant-arrays
invariant-arrays l = AllByRecursion (λ a. IsOfCode a.home) (drop l.array-index l.arrays) → AllByRecursion (λ a. IsOfCode a.home) l.arrays
