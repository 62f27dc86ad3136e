use Rattle.std.proofs.Common.{◌≡◌, ◌++◌, map, drop}
use Rattle.xmp_num.specs.Arithmetic.{wrap}
use Rattle.xmp_spots.proofs.variables.in_type.Given as goal

abbrev pub invariant-values : goal.invariant-values
invariant-values l = l.found ++ map (wrap l.ty) (drop l.value-index l.values) ≡ map (wrap l.ty) l.values
