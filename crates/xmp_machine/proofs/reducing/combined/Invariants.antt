use Rattle.std.proofs.Common.{◌≡◌, map}
use Rattle.std.specs.List.{range_with_len}
use Rattle.xmp_instr.specs.Resumed.{combined_from}
use Rattle.xmp_machine.specs.Resuming.{value_by}
use Rattle.xmp_machine.proofs.reducing.combined.Given as goal

-- the values of the nodes so far, combined
abbrev pub invariant-nodes : goal.invariant-nodes
invariant-nodes l = l.value ≡ combined_from l.r (map (value_by l.node l.store l.heard l.j l.r.slot) (range_with_len 0 l.k))
