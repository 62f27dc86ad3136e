use Rattle.std.proofs.Common.{◌≡◌, [], drop}
use Rattle.xmp_loops.specs.Loopers.{loopers_from}
use Rattle.xmp_loops.proofs.uncounted.loopers.Given as goal

-- with the functions that are left they are all
abbrev pub invariant-items : goal.invariant-items
invariant-items l = loopers_from l.p l.loops (drop l.f-index l.p.functions) ≡ loopers_from l.p [] l.p.functions
