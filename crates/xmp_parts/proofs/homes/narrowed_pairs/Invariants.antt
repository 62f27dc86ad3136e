use Rattle.std.proofs.Common.{◌≡◌, ◌++◌, map, drop}
use Rattle.xmp_names.specs.Sizes.{natural}
use Rattle.xmp_parts.proofs.homes.narrowed_pairs.Given as goal

abbrev pub invariant-widths : goal.invariant-widths
invariant-widths l = map (λ x. (natural x.0, natural x.1)) l.widths ≡ l.made ++ map (λ x. (natural x.0, natural x.1)) (drop l.low-index l.widths)
