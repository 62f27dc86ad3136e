use Rattle.std.proofs.Common.{◌≡◌, drop}
use Rattle.xmp_nodes.specs.Reflecting.{reflect_all}
use Rattle.xmp_exchanges.proofs.reflect.reflect_all.Given as goal

abbrev pub invariant-arrays : goal.invariant-arrays
invariant-arrays l = reflect_all l.together.program.now (drop l.name-index l.arrays) l.nodes ≡ reflect_all l.together.program.now l.arrays l.initial.nodes
