use Rattle.std.proofs.Common.{◌≡◌, ◌++◌, [], map, drop}
use Rattle.xmp_spots.proofs.variables.Variables.new.Given as goal

abbrev pub invariant-scalars : goal.invariant-scalars
invariant-scalars l = l.rows ++ map (λ ty. []) (drop l._ty-index l.scalars) ≡ map (λ ty. []) l.scalars
