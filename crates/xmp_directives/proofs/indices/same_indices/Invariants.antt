use Rattle.std.proofs.Common.{◌≡◌, drop}
use Rattle.xmp_prog.specs.Statements.{indices_of}
use Rattle.xmp_directives.specs.Directives.{same_numbers}
use Rattle.xmp_directives.proofs.indices.same_indices.Given as goal

-- what is left to do from here gives what the whole gives
abbrev pub invariant-names : goal.invariant-names
invariant-names l = same_numbers l.names (indices_of l.nest) ≡ same_numbers (drop l.i l.names) (indices_of (drop l.i l.nest))
