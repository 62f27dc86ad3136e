use Rattle.std.proofs.Common.{◌≡◌, drop}
use Rattle.std.specs.List.{list_any}
use Rattle.xmp_walk.specs.Counted.{is_kept}
use Rattle.xmp_walk.proofs.counted.nest_writes.Given as goal

-- what is left to do from here gives what the whole gives
abbrev pub invariant-heads : goal.invariant-heads
invariant-heads l = list_any (λ h. is_kept l.index l.to h.index.number) l.fn.nest ≡ list_any (λ h. is_kept l.index l.to h.index.number) (drop l.head-index l.nest)
