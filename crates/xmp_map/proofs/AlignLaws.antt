-- Dimensions of an array over those of a template.
use Rattle.std.proofs.Common.{◌≡◌, ℕ, zero, suc, ◌≤◌, List, [], ◌∷◌, refl, arith, length, None}
use Rattle.std.specs.Prelude.{slice_get}
use Rattle.xmp_map.specs.declared.spread_dim.SpreadDim.{SpreadDim}

pub slice_get-none : (ss : List SpreadDim) (d : ℕ) → length ss ≤ d → slice_get ss d ≡ None
slice_get-none [] d h = refl
slice_get-none (s ∷ ss) zero h = absurd (omega arith)
slice_get-none (s ∷ ss) (suc d) h = slice_get-none ss d (omega arith)

pub ruleset under_laws = (slice_get-none)
