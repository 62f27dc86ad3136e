use Rattle.std.proofs.Common.{◌≡◌, drop}
use Rattle.std.specs.List.{list_all}
use Rattle.xmp_walk.specs.Declarations.{extent_right}
use Rattle.xmp_walk.proofs.declarations.extents_right.Given as goal

-- the values so far are right
abbrev pub invariant-values : goal.invariant-values
invariant-values l = list_all (λ t. extent_right t.value) l.fn.values ≡ list_all (λ t. extent_right t.value) (drop l.value-index l.values)
