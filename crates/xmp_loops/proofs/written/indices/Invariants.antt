use Rattle.std.proofs.Common.{◌≡◌, ◌++◌, drop}
use Rattle.xmp_prog.specs.Statements.{indices_of}
use Rattle.xmp_loops.proofs.written.indices.Given as goal

-- the indices so far, and those of the heads that are left, are all
abbrev pub invariant-items : goal.invariant-items
invariant-items l = l.out ++ indices_of (drop l.head-index l.nest) ≡ l.fn.out ++ indices_of l.nest
