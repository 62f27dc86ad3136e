use Rattle.std.proofs.Common.{◌≡◌, ◌+◌, ◌++◌, map, take}
use Rattle.xmp_move.specs.Sums.{pair_sums}
use Rattle.xmp_move.proofs.sums.push_rows.Given as goal

abbrev pub invariant-loop-y : goal.invariant-loop-y
invariant-loop-y l = l.out.items ≡ l.fn.out.items ++ map (λ r. l.base + (l.x + r)) (pair_sums (take l.y-index l.ys) l.zs)
