use Rattle.std.proofs.Common.{◌≡◌, ◌++◌, map, drop}
use Rattle.xmp_num.specs.declared.types.Ty.TheVariants.{Int}
use Rattle.xmp_num.specs.Arithmetic.{wrap}
use Rattle.xmp_races.proofs.loops.ints.Given as goal

abbrev pub invariant-values : goal.invariant-values
invariant-values l = l.found ++ map (wrap Int) (drop l.value-index l.values) ≡ map (wrap Int) l.values
