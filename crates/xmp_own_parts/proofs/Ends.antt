-- Ends of parts, one after the other.
use Rattle.std.proofs.Common.{◌≡◌, ◌++◌, ℤ, List, [], ◌∷◌, Result, Ok, Err, refl, sym, ap, ◌∙◌, append_assoc}
use Rattle.std.specs.Prelude.{IfOk}
use Rattle.xmp_prog.specs.declared.parts.ProgParts.{ProgParts}
use Rattle.xmp_prog.specs.declared.statements.Reduction.{Reduction}
use Rattle.xmp_meaning.specs.Exchanges.{PartEnd}
use Rattle.xmp_meaning.specs.LoopEnds.{joined, all_joined}

pub joined_more : (p : ProgParts) (rs : List Reduction) (so_far : PartEnd) (es : List PartEnd) (e : PartEnd)
    → all_joined p rs so_far (es ++ e ∷ []) ≡ joined p rs (all_joined p rs so_far es) e
joined_more p rs so_far [] e = refl
joined_more p rs so_far (x ∷ es) e = joined_more p rs (joined p rs so_far x) es e

-- one value more, and those of the rest
pub one_more_value : {E : Type 0} (values more all rest : List ℤ) (v : ℤ) (r : Result (List ℤ) E) → more ≡ values ++ v ∷ [] → all ≡ v ∷ rest → IfOk r (λ vs. vs ≡ more ++ rest)
    → IfOk r (λ vs. vs ≡ values ++ all)
one_more_value values more all rest v (Ok vs) e f h = h ∙ ap (λ xs. xs ++ rest) e ∙ append_assoc values (v ∷ []) rest ∙ ap (λ xs. values ++ xs) (sym f)
one_more_value values more all rest v (Err x) e f h = tt
