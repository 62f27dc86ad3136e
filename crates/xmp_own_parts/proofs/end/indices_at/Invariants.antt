use Rattle.std.proofs.Common.{◌≡◌, ◌++◌, drop}
use Rattle.xmp_meaning.specs.Exchanges.{values_of}
use Rattle.xmp_prog.specs.Statements.{indices_of}
use Rattle.xmp_own_parts.proofs.end.indices_at.Given as goal

abbrev pub invariant-heads : goal.invariant-heads
invariant-heads l = values_of l.state (indices_of l.heads) ≡ l.values ++ values_of l.state (indices_of (drop l.head-index l.heads))
