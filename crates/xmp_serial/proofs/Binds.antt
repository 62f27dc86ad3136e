use Rattle.std.proofs.Common.{◌≡◌, ℕ, ℤ, List, [], ◌∷◌, refl}
use Rattle.xmp_prog.specs.declared.parts.ProgParts.{ProgParts}
use Rattle.xmp_meaning.specs.Runs.{State, Gave}
use Rattle.xmp_meaning.specs.Calls.{bind}

-- where there are no more arguments nothing is bound
pub bind_none : (p : ProgParts) (slots : List ℕ) (s : State (Unit {0})) → bind p slots [] s ≡ Gave tt s
bind_none p [] s = refl
bind_none p (x ∷ xs) s = refl
