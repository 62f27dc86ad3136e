use Rattle.std.proofs.Common.{◌≡◌, map, drop}
use Rattle.xmp_walk.specs.Counted.{any, reads}
use Rattle.xmp_walk.proofs.counted.+reads.Given as goal

-- what is left to do from here gives what the whole gives
abbrev pub invariant-some_reads-items : goal.invariant-some_reads-items
invariant-some_reads-items l = any (map (λ e. reads e l.slot) l.fn.es) ≡ any (map (λ e. reads e l.slot) (drop l.e-index l.es))
