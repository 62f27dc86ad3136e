use Rattle.std.proofs.Common.{◌≡◌, ◌++◌, map, drop}
use Rattle.xmp_spots.proofs.writes.starts.Given as goal

abbrev pub invariant-items : goal.invariant-items
invariant-items l = l.out ++ map (λ s. s.slot) (drop l.s-index l.start) ≡ l.fn.out ++ map (λ s. s.slot) l.start
