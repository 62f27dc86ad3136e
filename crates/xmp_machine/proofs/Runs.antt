-- Runs of a node to a stop.
use Rattle.std.proofs.Common.{◌≡◌, ℕ, suc, Some, ap, ◌∙◌}
use Rattle.xmp_steps.specs.Machine.{Next, Stops, Comes, Now, On, Is, within}
use Rattle.xmp_steps.specs.Stops.{at_goes, at_stops}

-- the steps that lead to a stop find it
pub found_by : {S P : Type 0} (next : S → Next S P) (t : S) (p : P) → next t ≡ Stops p → (s : S) → Comes next (Is t) s → (n : ℕ) × (within next n s ≡ Some (p, t))
found_by next t p h s (Now e) = (0, at_stops next 0 s p (ap next e ∙ h) ∙ ap (λ x. Some (p, x)) e)
found_by next t p h s (On {t = u} g rest) =
    let behind = found_by next t p h u rest in
    (suc behind.0, at_goes next behind.0 s u g ∙ behind.1)
