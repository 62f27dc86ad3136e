use Rattle.std.proofs.Common.{◌≡◌, drop}
use Rattle.xmp_meaning.specs.LoopEnds.{set_all}
use Rattle.xmp_exchanges.proofs.values.set_all.Given as goal

abbrev pub invariant-variables : goal.invariant-variables
invariant-variables l = set_all (drop l.name-index l.variables) l.values l.state ≡ set_all l.initial.variables l.initial.values l.initial.state
