use Rattle.std.proofs.Common.{◌≡◌, ◌∙◌, ◌+◌, ◌∷◌, [], ℕ, suc, List, length, ap, refl}
use Rattle.xmp_names.specs.declared.mappings.AlignPoint.{AlignPoint}
use Rattle.xmp_parts.specs.Parts.{held_points, targets_from}
use Rattle.xmp_parts.proofs.homes.made_map.Goals as goal

targets_length : (points : List AlignPoint) (d : ℕ) (extents : List ℕ) → length (targets_from d extents points) ≡ length extents
targets_length points d [] = refl
targets_length points d (x ∷ xs) = ap suc (targets_length points (d + 1) xs)

pub map_of-requires-clause-targets : goal.map_of-requires-clause-targets
map_of-requires-clause-targets c = ap length (c.as_slice.ensures ∙ c.in_ok-targets.ensures) ∙ targets_length (held_points c.args.lowers.now 0 c.args.points.now) 0 c.args.extents.now
