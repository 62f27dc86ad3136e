use Rattle.std.proofs.Common.{◌≡◌, ◌∙◌, ◌<◌, ◌++◌, ◌∷◌, [], ◌+◌, ℕ, List, length, get_or, drop, ap, sym, add-one, append_assoc, drop-cons}
use Rattle.xmp_map.specs.declared.aligned.Target.{Target}
use Rattle.xmp_names.specs.declared.mappings.AlignPoint.{AlignPoint}
use Rattle.xmp_parts.specs.Parts.{held_points, target_from, targets_from}
use Rattle.xmp_parts.proofs.homes.made_targets.Goals as goal

-- One more target.
target_step : (points : List AlignPoint) (extents : List ℕ) (i : ℕ) (t : Target) (made next : List Target) → i < length extents → t ≡ target_from i 0 points → next ≡ made ++ t ∷ [] →
    made ++ targets_from i (drop i extents) points ≡ next ++ targets_from (i + 1) (drop (i + 1) extents) points
target_step points extents i t made next h e n =
    let d : drop i extents ≡ get_or extents i 0 ∷ drop (i + 1) extents = rw add-one (drop-cons extents i 0 h) in
    ap (λ l. made ++ targets_from i l points) d
    ∙ (ap (λ z. made ++ z ∷ targets_from (i + 1) (drop (i + 1) extents) points) (sym e) ∙ rw (n, append_assoc))

pub extents-preserved : goal.extents-preserved
extents-preserved c = c.extents.invariant ∙ target_step (held_points c.args.lowers.now 0 c.args.points.now) c.args.extents.now c.extents.d c.target_of.result c.extents.made c.push.new.self c.extents-test.true c.target_of.ensures c.in_ok-push.ensures.ok
