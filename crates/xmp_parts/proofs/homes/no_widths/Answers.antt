use Rattle.std.proofs.Common.{◌≡◌, ◌∙◌, ◌<◌, ◌++◌, ◌∷◌, [], ◌+◌, ℕ, List, length, get_or, map, drop, ap, add-one, append_assoc, drop-cons}
use Rattle.xmp_parts.proofs.homes.no_widths.Goals as goal

-- One more pair.
zero_step : (extents : List ℕ) (i : ℕ) (made next : List (ℕ × ℕ)) → i < length extents → next ≡ made ++ (0, 0) ∷ [] →
    made ++ map (λ x. (0, 0)) (drop i extents) ≡ next ++ map (λ x. (0, 0)) (drop (i + 1) extents)
zero_step extents i made next h e =
    let d : drop i extents ≡ get_or extents i 0 ∷ drop (i + 1) extents = rw add-one (drop-cons extents i 0 h) in
    ap (λ l. made ++ map (λ x. (0, 0)) l) d ∙ rw (e, append_assoc)

pub extents-preserved : goal.extents-preserved
extents-preserved c = c.extents.invariant ∙ zero_step c.args.extents.now c.extents._extent-index c.extents.made c.push.new.self c.extents-test.true c.in_ok-push.ensures.ok
