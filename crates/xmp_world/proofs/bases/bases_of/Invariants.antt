use Rattle.std.proofs.Common.{◌≡◌, map}
use Rattle.std.specs.List.{range_with_len}
use Rattle.xmp_world.specs.Gathering.{array_base}
use Rattle.xmp_world.proofs.bases.bases_of.Given as goal

abbrev pub invariant-arrays : goal.invariant-arrays
invariant-arrays l =
    (l.bases ≡ map (array_base l.p l.node) (range_with_len 0 l.a-index))
    × (l.next ≡ array_base l.p l.node l.a-index)
