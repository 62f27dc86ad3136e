use Rattle.std.proofs.Common.{◌≡◌, ◌++◌, map, drop}
use Rattle.xmp_walk.specs.Declarations.{extent_of}
use Rattle.xmp_walk.proofs.declarations.extents_of.Given as goal

-- the extents so far and those of the values that are left
abbrev pub invariant-values : goal.invariant-values
invariant-values l = map (λ t. extent_of t.value) l.fn.values ≡ l.extents ++ map (λ t. extent_of t.value) (drop l.value-index l.values)
