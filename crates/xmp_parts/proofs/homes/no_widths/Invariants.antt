use Rattle.std.proofs.Common.{◌≡◌, ◌++◌, map, drop}
use Rattle.xmp_parts.proofs.homes.no_widths.Given as goal

abbrev pub invariant-extents : goal.invariant-extents
invariant-extents l = map (λ x. (0, 0)) l.extents ≡ l.made ++ map (λ x. (0, 0)) (drop l._extent-index l.extents)
