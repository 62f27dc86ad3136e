use Rattle.std.proofs.Common.{◌≡◌, take}
use Rattle.xmp_prog.specs.Statements.{slots_of_names}
use Rattle.xmp_meaning.specs.Exchanges.{values_of}
use Rattle.xmp_exchanges.proofs.values.values_of.Given as goal

abbrev pub invariant-variables : goal.invariant-variables
invariant-variables l = l.values ≡ values_of l.state (slots_of_names (take l.name-index l.variables))
