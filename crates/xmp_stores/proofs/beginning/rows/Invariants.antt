use Rattle.std.proofs.Common.{◌≡◌, replicate}
use Rattle.xmp_stores.proofs.beginning.rows.Given as goal

abbrev pub invariant-rows : goal.invariant-rows
invariant-rows l = l.all.items ≡ replicate l.i (replicate l.count 0)
