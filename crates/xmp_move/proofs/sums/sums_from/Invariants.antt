use Rattle.std.proofs.Common.{◌≡◌, ◌+◌, ◌++◌, map, take}
use Rattle.xmp_move.specs.Sums.{three_sums}
use Rattle.xmp_move.proofs.sums.sums_from.Given as goal

abbrev pub invariant-loop-x : goal.invariant-loop-x
invariant-loop-x l = l.out.items ≡ map (λ r. l.base + r) (three_sums (take l.x-index l.xs) l.ys l.zs)
